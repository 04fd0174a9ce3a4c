-- Layouts: their width, their amount, and the best of them.
use Rattle.std.specs.Prelude.{◌≡◌, ℕ, ◌+◌, ◌<◌, ◌≤◌, max, true, false, cond, List, [], length, Some, None, Option, ◌==◌, slice_index_or}
use Rattle.std.specs.List.{slice_get}
use Rattle.measure.specs.Measures.{Functions, better}
use Rattle.measure.specs.Settings.{Setting}
use Rattle.layout.specs.declared.entry.Cut.{Cut}
use Rattle.layout.specs.declared.entry.Cut.TheVariants.{Above, Beside}

-- a cell is a piece in one of its settings, both by number; a cut has its left or upper part first
pub data Layout : Type 0 where
  cell : ℕ → ℕ → Layout
  cut : Cut → Layout → Layout → Layout

-- the pieces of a page, each as the list of its settings
abbrev pub Pieces : Type 0 → Type 0
Pieces A = List (List (Setting A))

-- setting i of piece k, where there is one
abbrev pub setting_at : {A : Type 0} → Pieces A → ℕ → ℕ → Option (Setting A)
setting_at ps k i = slice_get (slice_index_or ps k []) i

-- the width of two parts beside each other
abbrev pub side_by_side : ℕ → ℕ → ℕ
side_by_side v w = v + w

abbrev pub cut_width : Cut → ℕ → ℕ → ℕ
cut_width Beside v w = side_by_side v w
cut_width Above v w = max v w

abbrev pub setting_width : {A : Type 0} → Option (Setting A) → ℕ
setting_width None = 0
setting_width (Some s) = s.width

-- the width of a layout: a cell has its setting's
abbrev pub width : {A : Type 0} → Pieces A → Layout → ℕ
width ps (cell k i) = setting_width (setting_at ps k i)
width ps (cut c x y) = cut_width c (width ps x) (width ps y)

abbrev pub cut_amount : {A : Type 0} → Functions A → Cut → A → A → Option A
cut_amount m Beside = m.beside
cut_amount m Above = m.above

-- the cut of two amounts, of which either may be nothing
abbrev pub joined : {A : Type 0} → (A → A → Option A) → Option A → Option A → Option A
joined f None y = None
joined f (Some a) None = None
joined f (Some a) (Some b) = f a b

abbrev pub cell_amount : {A : Type 0} → Functions A → Option (Setting A) → Option A
cell_amount m None = None
cell_amount m (Some s) = m.cell s.amount

-- the amount of a layout under a measure; nothing where any step gives nothing
abbrev pub amount : {A : Type 0} → Functions A → Pieces A → Layout → Option A
amount m ps (cell k i) = cell_amount m (setting_at ps k i)
amount m ps (cut c x y) = joined (cut_amount m c) (amount m ps x) (amount m ps y)

-- how many cells of a layout hold piece k
abbrev pub cells : ℕ → Layout → ℕ
cells k (cell j i) = cond (k == j) 1 0
cells k (cut c x y) = cells k x + cells k y

-- the setting of each cell exists
abbrev pub Real : {A : Type 0} → Pieces A → Layout → Type 0
Real {A} ps (cell k i) = (s : Setting A) × (setting_at ps k i ≡ Some s)
Real ps (cut c x y) = Real ps x × Real ps y

-- a layout of these pieces: each in exactly one cell, in a setting that it has
pub record LayoutOf {A : Type 0} (ps : Pieces A) (x : Layout) : Type 0 where
  pub once : (k : ℕ) → k < length ps → cells k x ≡ 1
  pub real : Real ps x

-- a layout fits a width that is at least its own
abbrev pub Fits : {A : Type 0} → Pieces A → ℕ → Layout → Type 0
Fits ps w x = width ps x ≤ w

-- it is one of the layouts that count, fits w and has the amount a
pub record Fitting {A : Type 0} (m : Functions A) (ps : Pieces A) (Counts : Layout → Type 0) (w : ℕ) (x : Layout) (a : A) : Type 0 where
  pub counts : Counts x
  pub fits : Fits ps w x
  pub has : amount m ps x ≡ Some a

-- the best of the layouts that count: none that fits has a better amount
pub record BestOf {A : Type 0} (m : Functions A) (ps : Pieces A) (Counts : Layout → Type 0) (w : ℕ) (x : Layout) (a : A) : Type 0 where
  pub fitting : Fitting m ps Counts w x a
  pub unbeaten : (y : Layout) (b : A) → Fitting m ps Counts w y b → better m b a ≡ false

-- the best of all layouts of the pieces
abbrev pub Best : {A : Type 0} → Functions A → Pieces A → ℕ → Layout → A → Type 0
Best m ps w x a = BestOf m ps (LayoutOf ps) w x a

-- what is best is no worse than every other layout of the pieces that fits and has an amount
abbrev pub BestIsNoWorse : {A : Type 0} → Functions A → Type 0
BestIsNoWorse {A} m =
    (ps : Pieces A) (w : ℕ) (x : Layout) (a : A) → Best m ps w x a → (y : Layout) (b : A) → Fitting m ps (LayoutOf ps) w y b → m.no_worse a b ≡ true
