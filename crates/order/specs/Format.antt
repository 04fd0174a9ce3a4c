-- An order file read figure by figure: what may stand in it from a place on, and the first fault there. The steps of a check promise in these terms.
use Rattle.std.specs.Prelude.{ℕ, zero, suc, ◌+◌, ◌*◌, Bool, cond, ◌&&◌, List, length, Ok, Err, Result, nat_le, slice_index}
use Rattle.fault.specs.declared.refusal.Refusal.TheVariants.{FileEndsEarly, FigureOutOfRange, FileGoesOn}
use Rattle.fault.specs.declared.refusal.Fault.{Fault}
use Rattle.fault.specs.Faults.{fault_at, then}
use Rattle.order.specs.declared.head.Figures.{Figures}
use Rattle.order.specs.declared.reader.Size.{Size}
use Rattle.order.specs.declared.reader.Size.TheVariants.{Byte, Pair}

-- the bytes that a figure takes
abbrev pub taken : Size → ℕ
taken Byte = 1
taken Pair = 2

-- the number that stands at a place
abbrev pub number_at : Size → List ℕ → ℕ → ℕ
number_at Byte file at = slice_index file at
number_at Pair file at = slice_index file at + 256 * slice_index file (at + 1)

-- a number is from low to high
abbrev pub in_range : (low high n : ℕ) → Bool
in_range low high n = nat_le low n && nat_le n high

-- the figure that is due at a place, or the fault there
abbrev pub figure_at : Size → (low high : ℕ) → List ℕ → ℕ → Result ℕ Fault
figure_at size low high file at =
    cond (nat_le (at + taken size) (length file))
    (cond (in_range low high (number_at size file at)) (Ok (number_at size file at)) (Err (fault_at FigureOutOfRange at)))
    (Err (fault_at FileEndsEarly (length file)))

-- what may stand in a file from a place on: nothing more, or a figure, whose value says what follows it
pub data Format : Type 0 where
  done : Figures → Format
  figure : Size → (low high : ℕ) → (ℕ → Format) → Format

-- the figures at the head, or the first fault, of a file that is to have this format from a place on
abbrev pub run : Format → List ℕ → ℕ → Result Figures Fault
run (done h) file at = cond (nat_le (length file) at) (Ok h) (Err (fault_at FileGoesOn at))
run (figure size low high next) file at =
    then (figure_at size low high file at) (λ n. run (next n) file (at + taken size))

-- the four figures at the head, and what follows them
abbrev pub head_first : (Figures → Format) → Format
head_first next =
    figure Byte 1 12 (λ n. figure Byte 1 24 (λ b. figure Byte 0 200 (λ g. figure Pair 1 40000 (λ c.
    next (record { pieces = n; breadth = b; gutter = g; ceiling = c })))))

-- the number of settings of each piece, and what follows their total
abbrev pub counts : (pieces total : ℕ) → (ℕ → Format) → Format
counts zero total next = next total
counts (suc n) total next = figure Byte 1 8 (λ k. counts n (total + k) next)

-- so many widths, each any byte
abbrev pub widths : ℕ → Format → Format
widths zero next = next
widths (suc n) next = figure Byte 0 255 (λ _. widths n next)

-- so many pairs of marks and depth
abbrev pub pairs : ℕ → Format → Format
pairs zero next = next
pairs (suc n) next = figure Pair 0 1000 (λ _. figure Pair 1 2000 (λ _. pairs n next))

-- an order file, whole
abbrev pub order_format : Format
order_format = head_first (λ h. counts h.pieces 0 (λ n. widths n (pairs n (done h))))
