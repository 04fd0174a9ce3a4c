-- How many rows fall, and how the settings of a piece are replaced.
use Rattle.std.specs.Prelude.{◌≡◌, ℕ, ◌-◌, ◌*◌, ◌^◌, min, cond, List, length, Ok, Err, Result, nat_lt, slice_set}
use Rattle.fault.specs.declared.refusal.Refusal.TheVariants.{NoSuchPiece}
use Rattle.fault.specs.declared.refusal.Fault.{Fault}
use Rattle.fault.specs.Faults.{fault, then}
use Rattle.fault.specs.Written.{overwrite}
use Rattle.measure.specs.Measures.{Functions}
use Rattle.measure.specs.Settings.{Setting, paired}
use Rattle.page.specs.Pieces.{PageData, Held, pieces}
use Rattle.page.specs.Puts.{roomy, tested}

-- the page with at most so many rows
abbrev pub sunk : ℕ → PageData → PageData
sunk rows p = record { breadth = p.breadth; count = p.count; settings = p.settings; standing = min p.standing rows }

-- the rows that stay when piece k changes: at most the 2^k − 1 of the pieces below it
abbrev pub staying : PageData → ℕ → ℕ
staying p k = min p.standing (2 ^ k - 1)

-- the rows that fall then
abbrev pub falling : PageData → ℕ → ℕ
falling p k = p.standing - staying p k

-- what amend answers: the rows fallen, or why nothing was amended
abbrev pub amending : {A : Type 0} → Functions A → Held A → ℕ → List ℕ → List A → Result ℕ Fault
amending m h k ws xs =
    cond (nat_lt k h.page.count)
    (then (roomy (length h.widths) (length h.amounts)) (λ _. then (tested m ws xs) (λ _. Ok (falling h.page k))))
    (Err (fault NoSuchPiece))

-- the page with other settings for piece k, in the tables from place 8k on
abbrev pub with_amended : {A : Type 0} → Held A → ℕ → List ℕ → List A → Held A
with_amended h k ws xs = record {
  page = record {
    breadth = h.page.breadth;
    count = h.page.count;
    settings = slice_set h.page.settings k (length ws);
    standing = staying h.page k;
  };
  widths = overwrite (8 * k) ws h.widths;
  amounts = overwrite (8 * k) xs h.amounts;
}

-- what amend leaves: piece k with other settings, or all as before
abbrev pub amend_leaves : {A : Type 0} → Result ℕ Fault → Held A → ℕ → List ℕ → List A → Held A
amend_leaves (Ok n) h k ws xs = with_amended h k ws xs
amend_leaves (Err e) h k ws xs = h

-- just piece k differs, or none does
abbrev pub amend_pieces : {A : Type 0} → Result ℕ Fault → Held A → ℕ → List ℕ → List A → List (List (Setting A))
amend_pieces (Ok n) h k ws xs = slice_set (pieces h) k (paired ws xs)
amend_pieces (Err e) h k ws xs = pieces h

-- an amend of piece k to the widths ws and the amounts xs led from h to after, and answered r
pub record Amend {A : Type 0} (m : Functions A) (h : Held A) (k : ℕ) (ws : List ℕ) (xs : List A) (after : Held A) (r : Result ℕ Fault) : Type 0 where
  pub answer : r ≡ amending m h k ws xs
  pub leaves : after ≡ amend_leaves r h k ws xs
  pub holds : pieces after ≡ amend_pieces r h k ws xs
