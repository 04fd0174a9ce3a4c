-- How an order's pieces are put on a page, one by one.
use Rattle.std.specs.Prelude.{◌≡◌, ℕ, zero, suc, ◌+◌, cond, List, [], ◌∷◌, map, length, Ok, Err, Result, nat_le}
use Rattle.fault.specs.declared.refusal.Refusal.TheVariants.{Memory}
use Rattle.fault.specs.declared.refusal.Fault.{Fault}
use Rattle.fault.specs.Faults.{fault, of_piece}
use Rattle.measure.specs.Measures.{Functions}
use Rattle.measure.specs.Filing.{Filing}
use Rattle.page.specs.Pieces.{Held}
use Rattle.page.specs.Puts.{putting, with_piece}
use Rattle.order.specs.Order.{FiledSetting, Order, Reads}
use Rattle.order.specs.declared.reader.Size.TheVariants.{Pair}
use Rattle.order.specs.Format.{number_at}
use Rattle.order.specs.Told.{Told}

-- the widths of a filed piece, and its amounts under a filed measure
abbrev pub widths_of : List FiledSetting → List ℕ
widths_of p = map (λ (s : FiledSetting). s.width) p

abbrev pub amounts_of : {A : Type 0} → Filing A → List FiledSetting → List A
amounts_of f p = map (λ (s : FiledSetting). f.amount s.marks s.depth) p

-- an answer, and what a page holds then
pub record Outcome (A : Type 0) : Type 0 where
  pub answer : Result ℕ Fault
  pub leaves : Held A

-- after an accepted put the others follow; a refused one ends it, with the piece's number in the file
abbrev pub go_on : {A : Type 0} → Result ℕ Fault → ℕ → Held A → Outcome A → Outcome A
go_on (Ok n) k h next = next
go_on (Err e) k h next = record { answer = Err (of_piece k e); leaves = h }

-- filed pieces put on a page one by one, the first being piece k of the file: how many pieces were put
abbrev pub filling : {A : Type 0} → Functions A → Filing A → ℕ → List (List FiledSetting) → Held A → Outcome A
filling m f k [] h = record { answer = Ok k; leaves = h }
filling m f k (p ∷ ps) h =
    go_on (putting m h (widths_of p) (amounts_of f p)) k h (filling m f (k + 1) ps (with_piece h (widths_of p) (amounts_of f p)))

-- a fill from a file: what check refuses is refused, and leaves the page as it was; a good file's pieces are put,
-- unless there are fewer than 8 amounts of scratch
pub record Filled {A : Type 0} (m : Functions A) (f : Filing A) (file : List ℕ) (scratch : ℕ) (h k : Held A) (r : Result ℕ Fault) : Type 0 where
  pub refused : (e : Fault) → Told file (Err e) → (r ≡ Err e) × (k ≡ h)
  pub put : (o : Order) → Reads file o → record { answer = r; leaves = k } ≡ cond (nat_le 8 scratch) (filling m f 0 o.pieces h) (record { answer = Err (fault Memory); leaves = h })

-- the amounts of n filed pairs that stand in a file from a place on
abbrev pub amounts_at : {A : Type 0} → Filing A → List ℕ → ℕ → ℕ → List A
amounts_at f file from zero = []
amounts_at f file from (suc n) = f.amount (number_at Pair file from) (number_at Pair file (from + 2)) ∷ amounts_at f file (from + 4) n

-- what put answers, said of piece k of the file
abbrev pub said_of : ℕ → Result ℕ Fault → Result ℕ Fault
said_of k (Ok n) = Ok n
said_of k (Err e) = Err (of_piece k e)

-- the file is good, and its order has so many pieces
abbrev pub Spells : List ℕ → ℕ → Type 0
Spells file pieces = (o : Order) × Reads file o × (length o.pieces ≡ pieces)

-- the pieces of the order that the file spells are put one by one
abbrev pub AllPut : {A : Type 0} → Functions A → Filing A → List ℕ → Held A → Held A → Result ℕ Fault → Type 0
AllPut m f file h k r = (o : Order) → Reads file o → record { answer = r; leaves = k } ≡ filling m f 0 o.pieces h
