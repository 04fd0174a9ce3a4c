-- The cells of a layout, counted by piece.
use Rattle.std.proofs.Common.{◌≡◌, ℕ, zero, suc, ◌+◌, ◌*◌, ◌<◌, ◌≤◌, cond, [], ◌∷◌, ◌++◌, length, refl, ap, inl, inr, arith}
use Rattle.std.proofs.lemmas.List.Sums.{sum_by-append}
use Rattle.std.proofs.lemmas.Bool.{cases_eq, eq-eqb, ne_eqb}
use Rattle.std.proofs.lemmas.Bool.Decides.{nat_tests}
use Rattle.layout.specs.declared.entry.Cut.{Cut}
use Rattle.layout.specs.declared.entry.Entry.{Entry}
use Rattle.layout.specs.Layouts.{Layout, cell, cut, cells}
use Rattle.layout.specs.Entries.{cut_entry, entries}
use Rattle.layout.specs.Texts.{Lettered, Tellable}
use Rattle.layout.specs.Readings.{in_cell, cell_count}
use Rattle.layout.proofs.Endings.{entry_count}

-- what an entry adds to the cells of a piece
abbrev pub adds : ℕ → Entry → ℕ
adds k e = in_cell k e.kind e.piece

-- the entries of a layout have its cells
pub count_entries : (k : ℕ) (x : Layout) → cell_count k (entries x) ≡ cells k x
count_entries k (cell j i) = omega arith
count_entries k (cut c x y) =
    omega (arith, sum_by-append (adds k) (entries x) (entries y ++ (cut_entry c ∷ [])), sum_by-append (adds k) (entries y) (cut_entry c ∷ []), count_entries k x, count_entries k y)

-- the cells of all pieces below n
abbrev cells_below : ℕ → Layout → ℕ
cells_below zero x = 0
cells_below (suc n) x = cells n x + cells_below n x

below_cut : (n : ℕ) (c : Cut) (x y : Layout) → cells_below n (cut c x y) ≡ cells_below n x + cells_below n y
below_cut zero c x y = refl
below_cut (suc n) c x y = omega (arith, below_cut n c x y)

below_none : (n k i : ℕ) → n ≤ k → cells_below n (cell k i) ≡ 0
below_none zero k i h = refl
below_none (suc n) k i h = let r = below_none n k i (omega arith) in grind (arith, nat_tests)

below_one : (n k i : ℕ) → k < n → cells_below n (cell k i) ≡ 1
below_one zero k i h = absurd (omega arith)
below_one (suc n) k i h = elim (cases_eq n k) [
  | inl e ↦ omega (arith, below_none n k i (omega arith), ap {B = ℕ} (λ b. cond b 1 0) (eq-eqb n k e))
  | inr ne ↦ omega (arith, below_one n k i (omega arith), ap {B = ℕ} (λ b. cond b 1 0) (ne_eqb n k ne))
]

-- no piece from 12 on has a letter
pub no_high : (k : ℕ) (x : Layout) → 12 ≤ k → Lettered x → cells k x ≡ 0
no_high k (cell j i) h l = ap {B = ℕ} (λ b. cond b 1 0) (ne_eqb k j (λ e. omega (arith, l.0)))
no_high k (cut c x y) h l = omega (arith, no_high k x h l.0, no_high k y h l.1)

-- two entries for each cell, but one
leaves : (x : Layout) → Lettered x → length (entries x) + 1 ≡ 2 * cells_below 12 x
leaves (cell k i) l = omega (arith, below_one 12 k i l.0)
leaves (cut c x y) l = omega (arith, entry_count c x y, below_cut 12 c x y, leaves x l.0, leaves y l.1)

below_most : (n : ℕ) (x : Layout) → ((k : ℕ) → cells k x ≤ 1) → cells_below n x ≤ n
below_most zero x h = omega arith
below_most (suc n) x h = omega (arith, h n, below_most n x h)

-- a layout of different pieces from a to l has at most 23 entries
pub most_entries : (x : Layout) → Tellable x → length (entries x) ≤ 23
most_entries x t = omega (arith, leaves x t.lettered, below_most 12 x t.different)
