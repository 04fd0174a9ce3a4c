-- Laws of the pieces of a set.
use Rattle.std.proofs.Common.{◌≡◌, ℕ, zero, suc, ◌+◌, ◌*◌, ◌%◌, ◌^◌, ◌<◌, ◌≤◌, true, cond, ◌&&◌, eqb, ltb, List, [], ◌∷◌, sym, ap, ◌∙◌, inl, inr, bit_and, bit_or, arith}
use lib.Bits.{or_add_and}
use Rattle.std.proofs.lemmas.Nat.{or_disjoint, one_shl}
use Rattle.std.proofs.lemmas.Nat.Bits.{bit_at-zero, bit_at-lt, bit_at_and, bit_at_or, bit_at-pow_same, bit_at-pow_other, and_pow, same_from_bits}
use Rattle.std.proofs.lemmas.Bool.{cases_eq, eq-eqb, ne_eqb}
use Rattle.std.proofs.lemmas.Bool.Decides.{nat_tests}
use Rattle.layout.specs.Sets.{bit, with_piece, number_of, count_in}

-- a piece is in a set or not
pub bit_small : (k s : ℕ) → bit k s ≤ 1
bit_small k s = omega (arith, bit_at-lt s k)

-- both of two sets with no piece in common
pub bit_sum : (a b : ℕ) → ((k : ℕ) → bit k a + bit k b ≤ 1) → (k : ℕ) → bit k (a + b) ≡ bit k a + bit k b
bit_sum a b apart k =
    let none : bit_and a b ≡ 0 = same_from_bits (bit_and a b) 0 (λ j. omega (arith, bit_at_and a b j, bit_at-zero j, apart j)) in
    ap (bit k) (sym (or_disjoint a b none)) ∙ omega (arith, bit_at_or a b k, apart k)

-- the set of one piece
pub bit_of_pow : (j k : ℕ) → bit j (2 ^ k) ≡ cond (eqb j k) 1 0
bit_of_pow j k = elim (cases_eq j k) [ inl e ↦ ap (λ n. bit n (2 ^ k)) e ∙ bit_at-pow_same k ∙ rw (eq-eqb j k e) | inr ne ↦ bit_at-pow_other k j ne ∙ rw (ne_eqb j k ne) ]

-- one more piece
pub bit_with : (j k s : ℕ) → bit k s ≡ 0 → bit j (s + 2 ^ k) ≡ bit j s + cond (eqb j k) 1 0
bit_with j k s h = bit_sum s (2 ^ k) apart j ∙ ap (λ n. bit j s + n) (bit_of_pow j k)
  where
    apart : (i : ℕ) → bit i s + bit i (2 ^ k) ≤ 1
    apart i = elim (cases_eq i k) [ inl e ↦ omega (arith, bit_small i (2 ^ k), ap (λ n. bit n s) e) | inr ne ↦ omega (arith, bit_small i s, bit_at-pow_other k i ne) ]

-- the number of different pieces
pub bit_of_number : (ks : List ℕ) → ((k : ℕ) → count_in k ks ≤ 1) → (k : ℕ) → bit k (number_of ks) ≡ count_in k ks
bit_of_number [] h j = bit_at-zero j
bit_of_number (k ∷ ks) h j =
    let rest = bit_of_number ks (λ i. omega (arith, h i)) in
    let here : eqb k k ≡ true = grind (arith, nat_tests) in
    let first : count_in k (k ∷ ks) ≡ 1 + count_in k ks = rw here in
    let new : bit k (number_of ks) ≡ 0 = omega (arith, rest k, h k) in
    let turn : 2 ^ k + number_of ks ≡ number_of ks + 2 ^ k = omega arith in
    ap (bit j) turn ∙ bit_with j k (number_of ks) new ∙ omega (arith, rest j)

-- a piece joined to a set of 16 bits
pub set_with : (k s : ℕ) → k < 16 → bit_or s (1 * 2 ^ k % 2 ^ 16) ≡ with_piece k s
set_with k s h =
    let both : bit_or s (2 ^ k) + bit k s * 2 ^ k ≡ s + 2 ^ k = ap (λ n. bit_or s (2 ^ k) + n) (sym (and_pow s k)) ∙ or_add_and s (2 ^ k) in
    ap (bit_or s) (one_shl k 16 h) ∙ by (bit k s) (bit_small k s) both
  where
    by : (b : ℕ) → b ≤ 1 → bit_or s (2 ^ k) + b * 2 ^ k ≡ s + 2 ^ k → bit_or s (2 ^ k) ≡ cond (ltb k 16 && eqb b 0) (s + 2 ^ k) s
    by zero small e = grind (arith, nat_tests)
    by (suc b) small e = grind (arith, nat_tests)
