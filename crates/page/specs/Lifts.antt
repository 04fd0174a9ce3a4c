-- How the last piece is taken off a page.
use Rattle.std.specs.Prelude.{◌≡◌, ℕ, ◌-◌, cond, List, take, Ok, Err, Result, nat_lt, slice_set}
use Rattle.fault.specs.declared.refusal.Refusal.TheVariants.{NoSuchPiece}
use Rattle.fault.specs.declared.refusal.Fault.{Fault}
use Rattle.fault.specs.Faults.{fault}
use Rattle.measure.specs.Settings.{Setting}
use Rattle.page.specs.Pieces.{PageData, Held, with_page, pieces}
use Rattle.page.specs.Amends.{staying, falling}

-- what lift answers: the rows fallen, or that there is no piece
abbrev pub lifting : PageData → Result ℕ Fault
lifting p = cond (nat_lt 0 p.count) (Ok (falling p (p.count - 1))) (Err (fault NoSuchPiece))

-- the page without its last piece
abbrev pub without_last : PageData → PageData
without_last p = record {
  breadth = p.breadth;
  count = p.count - 1;
  settings = slice_set p.settings (p.count - 1) 0;
  standing = staying p (p.count - 1);
}

-- what lift leaves: one piece less, or all as before
abbrev pub lift_leaves : Result ℕ Fault → PageData → PageData
lift_leaves (Ok n) p = without_last p
lift_leaves (Err e) p = p

-- all pieces but the last, or just those that were there
abbrev pub lift_pieces : {A : Type 0} → Result ℕ Fault → Held A → List (List (Setting A))
lift_pieces (Ok n) h = take (h.page.count - 1) (pieces h)
lift_pieces (Err e) h = pieces h

-- a lift led from h to after, and answered r; the tables stay
pub record Lift {A : Type 0} (h after : Held A) (r : Result ℕ Fault) : Type 0 where
  pub answer : r ≡ lifting h.page
  pub leaves : after ≡ with_page (lift_leaves r h.page) h
  pub holds : pieces after ≡ lift_pieces r h
