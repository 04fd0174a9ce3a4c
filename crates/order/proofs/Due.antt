-- A figure that is due at a place, many widths, and one turn of each loop of a check.
use Rattle.std.proofs.Common.{◌≡◌, ℕ, zero, suc, ◌+◌, ◌-◌, ◌<◌, ◌≤◌, ◌⊎◌, List, length, get_or, Ok, Err, Result, sym, ap, subst, ◌∙◌, ⊎_elim, arith}
use Rattle.std.proofs.lemmas.Bool.{cases_lt}
use Rattle.std.proofs.lemmas.Bool.Decides.{nat_tests}
use Rattle.fault.specs.declared.refusal.Refusal.TheVariants.{FileEndsEarly, FigureOutOfRange}
use Rattle.fault.specs.declared.refusal.Fault.{Fault}
use Rattle.fault.specs.Faults.{fault_at, then}
use Rattle.order.specs.declared.head.Figures.{Figures}
use Rattle.order.specs.declared.reader.Size.{Size}
use Rattle.order.specs.declared.reader.Size.TheVariants.{Byte}
use Rattle.order.specs.Format.{Format, taken, number_at, figure_at, run, counts, widths, pairs}

-- a figure that is there and in range, one that is out of range, and one that is not there
module _ (size : Size) (low high : ℕ) (file : List ℕ) (at : ℕ) where
  pub due_good : at + taken size ≤ length file → low ≤ number_at size file at → number_at size file at ≤ high → figure_at size low high file at ≡ Ok (number_at size file at)
  due_good there lo hi = grind (arith, nat_tests)

  pub due_bad : at + taken size ≤ length file → (number_at size file at < low) ⊎ (high < number_at size file at) → figure_at size low high file at ≡ Err (fault_at FigureOutOfRange at)
  due_bad there out = grind (arith, nat_tests)

  pub due_early : length file < at + taken size → figure_at size low high file at ≡ Err (fault_at FileEndsEarly (length file))
  due_early short = grind (arith, nat_tests)

-- a step that gave a value, and one that gave a fault
pub goes : {A B : Type 0} {r : Result A Fault} {a : A} (next : A → Result B Fault) → r ≡ Ok a → then r next ≡ next a
goes next e = ap (λ x. then x next) e

pub stops : {A B : Type 0} {r : Result A Fault} {f : Fault} (next : A → Result B Fault) → r ≡ Err f → then r next ≡ Err f
stops next e = ap (λ x. then x next) e

-- widths are passed over where there are enough bytes, and end early where there are not
pub widths_there : (n : ℕ) (next : Format) (file : List ℕ) (at : ℕ) → ((i : ℕ) → get_or file i 0 < 256) → n ≤ length file - at → run (widths n next) file at ≡ run next file (at + n)
widths_there zero next file at small enough = let e : at ≡ at + 0 = omega arith in ap (run next file) e
widths_there (suc n) next file at small enough =
    let e : (at + 1) + n ≡ at + suc n = omega arith in
    let d = due_good Byte 0 255 file at (omega arith) (omega arith) (omega (arith, small at)) in
    goes (λ v. run (widths n next) file (at + 1)) d ∙ (widths_there n next file (at + 1) small (omega arith) ∙ ap (run next file) e)

pub widths_short : (n : ℕ) (next : Format) (file : List ℕ) (at : ℕ) → ((i : ℕ) → get_or file i 0 < 256) → length file - at < n → run (widths n next) file at ≡ Err (fault_at FileEndsEarly (length file))
widths_short zero next file at small short = absurd (omega arith)
widths_short (suc n) next file at small short =
    ⊎_elim
    (λ h.
    let d = due_good Byte 0 255 file at (omega arith) (omega arith) (omega (arith, small at)) in
    goes (λ v. run (widths n next) file (at + 1)) d ∙ widths_short n next file (at + 1) small (omega arith))
    (λ h. stops (λ v. run (widths n next) file (at + 1)) (due_early Byte 0 255 file at (omega arith)))
    (cases_lt at (length file))

pub due_high : (size : Size) (low high : ℕ) (file : List ℕ) (at k : ℕ) → figure_at size low high file at ≡ Ok k → k ≤ high
due_high size low high file at k e = grind (arith, nat_tests)

-- one turn over the counts, in the file g that is f
module _ (f g : List ℕ) (same : g ≡ f) (next : ℕ → Format) (pieces i total at : ℕ) (all : Result Figures Fault) (more : i < pieces) (sofar : all ≡ run (counts (pieces - i) total next) f at) where
  counts_turn : all ≡ then (figure_at Byte 1 8 f at) (λ k. run (counts (pieces - (i + 1)) (total + k) next) f (at + 1))
  counts_turn =
      let e : pieces - i ≡ suc (pieces - (i + 1)) = omega arith in
      sofar ∙ ap (λ n. run (counts n total next) f at) e

  pub counts_go : (k : ℕ) → figure_at Byte 1 8 g at ≡ Ok k → all ≡ run (counts (pieces - (i + 1)) (total + k) next) f (at + 1)
  counts_go k e = counts_turn ∙ goes (λ k. run (counts (pieces - (i + 1)) (total + k) next) f (at + 1)) (ap (λ l. figure_at Byte 1 8 l at) (sym same) ∙ e)

  pub counts_stop : (d : Fault) → figure_at Byte 1 8 g at ≡ Err d → all ≡ Err d
  counts_stop d e = counts_turn ∙ stops (λ k. run (counts (pieces - (i + 1)) (total + k) next) f (at + 1)) (ap (λ l. figure_at Byte 1 8 l at) (sym same) ∙ e)

-- what a step says of the file g is so of f, which it is
module _ (f g : List ℕ) (same : g ≡ f) (t : Format) (at : ℕ) (all : Result Figures Fault) (sofar : all ≡ run t f at) where
  pub goes_on : (rest : Format) (to : ℕ) → run t g at ≡ run rest g to → all ≡ run rest f to
  goes_on rest to h = sofar ∙ subst (λ l. run t l at ≡ run rest l to) same h

  pub stops_at : (d : Fault) → run t g at ≡ Err d → all ≡ Err d
  stops_at d h = sofar ∙ subst (λ l. run t l at ≡ Err d) same h

-- one turn over the pairs
module _ (f g : List ℕ) (same : g ≡ f) (next : Format) (settings i at : ℕ) (all : Result Figures Fault) (more : i < settings) (sofar : all ≡ run (pairs (settings - i) next) f at) where
  abbrev left : Format
  left = pairs (settings - (i + 1)) next

  pub pairs_turn : all ≡ run (pairs 1 left) f at
  pairs_turn = let e : settings - i ≡ suc (settings - (i + 1)) = omega arith in sofar ∙ ap (λ n. run (pairs n next) f at) e

  pub pairs_go : (to : ℕ) → ((rest : Format) → run (pairs 1 rest) g at ≡ run rest g to) → all ≡ run left f to
  pairs_go to h = goes_on f g same (pairs 1 left) at all pairs_turn left to (h left)

  pub pairs_stop : (d : Fault) → ((rest : Format) → run (pairs 1 rest) g at ≡ Err d) → all ≡ Err d
  pairs_stop d h = stops_at f g same (pairs 1 left) at all pairs_turn d (h left)
