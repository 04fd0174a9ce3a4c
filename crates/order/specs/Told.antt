-- What a check tells of a file, by what is an order's bytes and what begins them.
use Rattle.std.specs.Prelude.{◌≡◌, ℕ, ◌+◌, ◌<◌, ◌≤◌, ◌⊎◌, List, ◌∷◌, ◌++◌, length, take, Ok, Err, Result, slice_index}
use Rattle.std.specs.List.{flat_map, AllByRecursion}
use Rattle.fault.specs.declared.refusal.Refusal.TheVariants.{FileEndsEarly, FigureOutOfRange, FileGoesOn}
use Rattle.fault.specs.declared.refusal.Fault.{Fault}
use Rattle.fault.specs.Faults.{fault_at}
use Rattle.order.specs.declared.head.Figures.{Figures}
use Rattle.order.specs.Order.{Order, Figure, InRange, figures, spelt, Reads, GoodFile, Begins}

-- the figures at the head of an order
abbrev pub head : Order → Figures
head o = record { pieces = length o.pieces; breadth = o.breadth; gutter = o.gutter; ceiling = o.ceiling }

-- the file is a proper beginning of a good file
abbrev pub EndsEarly : List ℕ → Type 0
EndsEarly file = (rest : List ℕ) × (0 < length rest) × GoodFile (file ++ rest)

-- the bytes before the place are a good file, and more follow
abbrev pub GoesOn : List ℕ → ℕ → Type 0
GoesOn file place = (place < length file) × GoodFile (take place file)

-- what stands before the place begins a good file, a figure is due there, its bytes are there, and with them no good file begins
pub record OutOfRange (file : List ℕ) (place : ℕ) : Type 0 where
  pub order : Order
  pub before : List Figure
  pub due : Figure
  pub after : List Figure
  pub good : AllByRecursion InRange (figures order)
  pub split : figures order ≡ before ++ due ∷ after
  pub read : flat_map spelt before ≡ take place file
  pub from : length (flat_map spelt before) ≡ place
  pub there : place + length (spelt due) ≤ length file
  pub wrong : Begins (take (place + length (spelt due)) file) → ⊥

-- the outcome of a check: the head of the order that the file spells, or one of three faults
abbrev pub Told : List ℕ → Result Figures Fault → Type 0
Told file (Ok h) = (o : Order) × Reads file o × (h ≡ head o)
Told file (Err e) =
    ((e ≡ fault_at FileEndsEarly (length file)) × EndsEarly file)
    ⊎ (((place : ℕ) × (e ≡ fault_at FigureOutOfRange place) × OutOfRange file place)
    ⊎ ((place : ℕ) × (e ≡ fault_at FileGoesOn place) × GoesOn file place))

-- the outcome holds, and no other does
pub record Settled (file : List ℕ) (r : Result Figures Fault) : Type 0 where
  pub told : Told file r
  pub alone : (s : Result Figures Fault) → Told file s → s ≡ r

-- a file has at most one reading
abbrev pub OneReading : Type 0
OneReading = (file : List ℕ) (o p : Order) → Reads file o → Reads file p → o ≡ p

-- exactly one of the four outcomes holds of every file, whatever its bytes are
abbrev pub OneOutcome : Type 0
OneOutcome = (file : List ℕ) → ((i : ℕ) → slice_index file i < 256) → (r : Result Figures Fault) × Settled file r
