-- Entries read from their end: what the check of a list of entries and the writing of its text go by.
use Rattle.std.specs.Prelude.{◌≡◌, ℕ, ◌+◌, ◌*◌, ◌<◌, ◌≤◌, cond, List, [], ◌++◌, length, sum_by, take, Some, None, Option, ◌==◌}
use Rattle.fault.specs.Written.{overwrite}
use Rattle.layout.specs.declared.entry.Kind.{Kind}
use Rattle.layout.specs.declared.entry.Kind.TheVariants as kinds
use Rattle.layout.specs.declared.entry.Entry.{Entry}
use Rattle.layout.specs.Layouts.{Layout}
use Rattle.layout.specs.Entries.{entries}
use Rattle.layout.specs.Sets.{bit}
use Rattle.layout.specs.Texts.{Lettered, plan_text}

-- the entry of a cell from a to l, in a setting 0 to 7
pub record CellEntry (e : Entry) : Type 0 where
  pub is : e.kind ≡ kinds.Cell
  pub piece : e.piece < 12
  pub setting : e.setting < 8

-- the entry of a cut
pub record CutEntry (e : Entry) : Type 0 where
  pub is : e.kind ≡ kinds.Cell → ⊥
  pub piece : e.piece ≡ 0
  pub setting : e.setting ≡ 0

-- the entries end with the layout x, and `front` stands before it
pub record Ending (es front : List Entry) (x : Layout) : Type 0 where
  pub spelt : front ++ entries x ≡ es
  pub lettered : Lettered x

-- where the layout begins that the entries end with, if they end with one
abbrev pub Begins : List Entry → Option ℕ → Type 0
Begins es (Some start) = (front : List Entry) × (x : Layout) × Ending es front x × (start ≡ length front)
Begins es None = (front : List Entry) (x : Layout) → Ending es front x → ⊥

-- 1 where an entry is a cell of piece k, else 0
abbrev pub in_cell : ℕ → Kind → ℕ → ℕ
in_cell k kinds.Cell piece = cond (k == piece) 1 0
in_cell k (kinds.Cut c) piece = 0

-- how many entries are cells of piece k
abbrev pub cell_count : ℕ → List Entry → ℕ
cell_count k es = sum_by (λ e. in_cell k e.kind e.piece) es

-- a set of the pieces that are counted once; nothing where one is counted twice. A set has bits for 16 pieces
abbrev pub Collected : (ℕ → ℕ) → Option ℕ → Type 0
Collected count (Some set) = (k : ℕ) → k < 16 → bit k set ≡ count k
Collected count None = (k : ℕ) × (k < 16) × (2 ≤ count k)

-- the first n entries end with a layout, and its text fits before the place
pub record Room (es : List Entry) (n place size : ℕ) : Type 0 where
  pub front : List Entry
  pub layout : Layout
  pub ending : Ending (take n es) front layout
  pub within : n ≤ length es
  pub fits : 2 * length (entries layout) ≤ place
  pub inside : place ≤ size

-- the text of the layout that the first n entries end with stands up to the place, and its beginnings are told
pub record WroteOf (front : List Entry) (x : Layout) (before : List ℕ) (place : ℕ) (after : List ℕ) (entry start : ℕ) : Type 0 where
  pub entry_is : entry ≡ length front
  pub start_is : start + 2 * length (entries x) ≡ place
  pub memory : after ≡ overwrite start (plan_text x) before

abbrev pub Wrote : List Entry → List ℕ → ℕ → ℕ → List ℕ → ℕ → ℕ → Type 0
Wrote es before n place after entry start = (front : List Entry) (x : Layout) → Ending (take n es) front x → WroteOf front x before place after entry start

-- the same of all entries, their text from a place on
pub record PlanRoom (es : List Entry) (at size : ℕ) : Type 0 where
  pub layout : Layout
  pub whole : Ending es [] layout
  pub fits : at + 2 * length es ≤ size

pub record PlanWroteOf (x : Layout) (before : List ℕ) (at : ℕ) (after : List ℕ) (r : ℕ) : Type 0 where
  pub behind : r ≡ at + length (plan_text x)
  pub memory : after ≡ overwrite at (plan_text x) before

abbrev pub PlanWrote : List Entry → List ℕ → ℕ → List ℕ → ℕ → Type 0
PlanWrote es before at after r = (x : Layout) → Ending es [] x → PlanWroteOf x before at after r
