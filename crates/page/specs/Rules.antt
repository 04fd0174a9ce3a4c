-- The rules of pieces, the pages that the calls make, and the law that these obey the rules.
use Rattle.std.specs.Prelude.{◌≡◌, ℕ, ◌+◌, ◌<◌, ◌≤◌, true, List, length, Some, Ok, Result}
use Rattle.std.specs.List.{slice_get}
use Rattle.fault.specs.declared.refusal.Fault.{Fault}
use Rattle.measure.specs.Measures.{Functions, better}
use Rattle.measure.specs.Settings.{Setting}
use Rattle.page.specs.Pieces.{PageData, Held, with_page, empty, pieces}
use Rattle.page.specs.Puts.{opening, opened, Put}
use Rattle.page.specs.Amends.{Amend}
use Rattle.page.specs.Lifts.{lifting, lift_leaves, Lift}

-- a piece has 1 to 8 settings, every width is 1 to 24, the widths rise strictly, and each amount is better than the one before
pub record Rules {A : Type 0} (m : Functions A) (p : List (Setting A)) : Type 0 where
  pub some : 1 ≤ length p
  pub few : length p ≤ 8
  pub within : (i : ℕ) (s : Setting A) → slice_get p i ≡ Some s → (1 ≤ s.width) × (s.width ≤ 24)
  pub rise : (i j : ℕ) (s t : Setting A) → i < j → slice_get p i ≡ Some s → slice_get p j ≡ Some t → s.width < t.width
  pub improve : (i : ℕ) (s t : Setting A) → slice_get p i ≡ Some s → slice_get p (i + 1) ≡ Some t → better m t.amount s.amount ≡ true

-- at most 12 pieces, and each obeys the rules
pub record Obeys {A : Type 0} (m : Functions A) (ps : List (List (Setting A))) : Type 0 where
  pub dozen : length ps ≤ 12
  pub each : (k : ℕ) (p : List (Setting A)) → slice_get ps k ≡ Some p → Rules m p

-- a page with its tables that the calls made: an empty page beside any tables, then pieces put, amended and lifted, each call accepted or
-- refused, and what a call leaves is what the next one finds
pub data Made {A : Type 0} (m : Functions A) : Held A → Type 0 where
  new_page : (breadth : ℕ) (widths : List ℕ) (amounts : List A) → 1 ≤ breadth → breadth ≤ 24 → Made m (record { page = empty breadth; widths = widths; amounts = amounts })
  then_put : {h after : Held A} {ws : List ℕ} {xs : List A} {r : Result ℕ Fault} → Made m h → Put m h ws xs after r → Made m after
  then_amend : {h after : Held A} {k : ℕ} {ws : List ℕ} {xs : List A} {r : Result ℕ Fault} → Made m h → Amend m h k ws xs after r → Made m after
  then_lift : {h after : Held A} {r : Result ℕ Fault} → Made m h → Lift h after r → Made m after

-- a page that the calls made goes on being one, and obeys the rules
abbrev pub GoesOn : {A : Type 0} → Functions A → Held A → Held A → Type 0
GoesOn m h after = Made m h → Made m after × Obeys m (pieces after)

-- every page that the calls made obeys the rules
abbrev pub PagesObey : {A : Type 0} → Functions A → Type 0
PagesObey {A} m = (h : Held A) → Made m h → Obeys m (pieces h)

-- whatever tables stand beside the record, an accepted open starts a run, and a refused one leaves all as it was
abbrev pub OpenStarts : {A : Type 0} → Functions A → Type 0
OpenStarts {A} m = (h : Held A) (breadth : ℕ) (q : PageData) (r : Result (Unit {0}) Fault) → r ≡ opening breadth → q ≡ opened r breadth h.page → (r ≡ Ok tt → Made m (with_page q h)) × GoesOn m h (with_page q h)

-- whatever tables stand beside the record, a lift leaves all pieces but the last, and a run goes on
abbrev pub LiftKeeps : {A : Type 0} → Functions A → Type 0
LiftKeeps {A} m = (h : Held A) (q : PageData) (r : Result ℕ Fault) → r ≡ lifting h.page → q ≡ lift_leaves r h.page → Lift h (with_page q h) r × GoesOn m h (with_page q h)
