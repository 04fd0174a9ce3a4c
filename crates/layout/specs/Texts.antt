-- The text of a layout, with the setting behind each letter, and the lines that tell of a width.
use Rattle.std.specs.Prelude.{◌≡◌, ℕ, ◌+◌, ◌<◌, ◌≤◌, cond, List, [], ◌∷◌, ◌++◌, length, Err, codes, decimal, Result, nat_le}
use Rattle.fault.specs.declared.refusal.Refusal.TheVariants.{Memory, SpoiledCode}
use Rattle.fault.specs.declared.refusal.Fault.{Fault}
use Rattle.fault.specs.Faults.{fault}
use Rattle.fault.specs.Written.{Written}
use Rattle.fault.specs.WrittenBy.{ample, WrittenBy}
use Rattle.fault.specs.declared.writer.Writer.{Writer}
use Rattle.measure.specs.Filing.{Filing}
use Rattle.layout.specs.declared.entry.Cut.{Cut}
use Rattle.layout.specs.declared.entry.Cut.TheVariants.{Above, Beside}
use Rattle.layout.specs.declared.entry.Entry.{Entry}
use Rattle.layout.specs.Layouts.{Layout, cell, cut, cells}
use Rattle.layout.specs.Entries.{entries}

-- [ and ] stand around two parts above each other, ( and ) around two beside each other
abbrev pub opening : Cut → ℕ
opening Above = 91
opening Beside = 40

abbrev pub closing : Cut → ℕ
closing Above = 93
closing Beside = 41

-- the letter of a piece, a for piece 0, and the digit of its setting
abbrev pub plan_text : Layout → List ℕ
plan_text (cell k i) = (97 + k) ∷ ((48 + i) ∷ [])
plan_text (cut c x y) = opening c ∷ (plan_text x ++ (plan_text y ++ (closing c ∷ [])))

-- pieces from a to l, in settings 0 to 7
abbrev pub Lettered : Layout → Type 0
Lettered (cell k i) = (k < 12) × (i < 8)
Lettered (cut c x y) = Lettered x × Lettered y

-- a layout that a line can tell: of different pieces from a to l
pub record Tellable (x : Layout) : Type 0 where
  pub lettered : Lettered x
  pub different : (k : ℕ) → cells k x ≤ 1

-- these entries are those of x, which a line can tell
pub record Spells (es : List Entry) (x : Layout) : Type 0 where
  pub spelt : entries x ≡ es
  pub tellable : Tellable x

-- `WIDTH AMOUNT PLAN`, and `WIDTH none`
abbrev pub front_text : {A : Type 0} → Filing A → ℕ → A → List ℕ
front_text f w a = decimal w ++ codes " " ++ f.text a ++ codes " "

abbrev pub layout_text : {A : Type 0} → Filing A → ℕ → A → Layout → List ℕ
layout_text f w a x = front_text f w a ++ plan_text x

abbrev pub none_text : ℕ → List ℕ
none_text w = decimal w ++ codes " none"

-- the line of a layout stands at the front of the buffer; where the entries are of none, that is the answer, behind want of memory,
-- and nothing changes
pub record LayoutLine {A : Type 0} (f : Filing A) (w : ℕ) (a : A) (es : List Entry) (before after : List ℕ) (r : Result ℕ Fault) : Type 0 where
  pub line : (x : Layout) → Spells es x → Written 80 (layout_text f w a x) before 0 after r
  pub refused : ((x : Layout) → Spells es x → ⊥) → (r ≡ Err (fault (cond (nat_le 80 (length before)) SpoiledCode Memory))) × (after ≡ before)

-- the same of a writer, at its place
pub record LayoutWrote {A : Type 0} (f : Filing A) (w : ℕ) (a : A) (es : List Entry) (before after : Writer) (r : Result (Unit {0}) Fault) : Type 0 where
  pub line : (x : Layout) → Spells es x → WrittenBy 80 (layout_text f w a x) before after r
  pub refused : ((x : Layout) → Spells es x → ⊥) → (r ≡ Err (fault (cond (ample 80 before) SpoiledCode Memory))) × (after ≡ before)
