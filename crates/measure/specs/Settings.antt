-- A setting of a piece, and a piece as the list of its settings.
use Rattle.std.specs.Prelude.{ℕ, List, [], ◌∷◌}

-- a width in columns, and an amount
pub record Setting (A : Type 0) : Type 0 where
  pub width : ℕ
  pub amount : A

-- a piece, from the widths and the amounts of its settings
abbrev pub paired : {A : Type 0} → List ℕ → List A → List (Setting A)
paired [] amounts = []
paired (w ∷ ws) [] = []
paired (w ∷ ws) (a ∷ amounts) = record { width = w; amount = a } ∷ paired ws amounts
