-- Sets of pieces as numbers: a set's number adds 2 ^ k for each piece k in it.
use Rattle.std.specs.Prelude.{◌≡◌, ℕ, ◌+◌, ◌^◌, ◌≤◌, cond, ◌&&◌, List, [], ◌∷◌, ◌==◌, nat_lt}
use Rattle.std.specs.Int.{bit_at}

-- 1 where piece k is in the set, else 0
abbrev pub bit : ℕ → ℕ → ℕ
bit k s = bit_at s k

-- a set of 16 bits with piece k: 2 ^ k more, unless the piece is in it or has no bit
abbrev pub with_piece : ℕ → ℕ → ℕ
with_piece k s = cond (nat_lt k 16 && bit k s == 0) (s + 2 ^ k) s

-- the number of a list of different pieces
abbrev pub number_of : List ℕ → ℕ
number_of [] = 0
number_of (k ∷ ks) = 2 ^ k + number_of ks

-- how often a piece is in a list
abbrev pub count_in : ℕ → List ℕ → ℕ
count_in j [] = 0
count_in j (k ∷ ks) = cond (j == k) 1 0 + count_in j ks

-- the number of different pieces holds these and no others; sets with the same pieces are one number
pub record SetsAreNumbers : Type 0 where
  pub pieces : (ks : List ℕ) → ((k : ℕ) → count_in k ks ≤ 1) → (k : ℕ) → bit k (number_of ks) ≡ count_in k ks
  pub same : (a b : ℕ) → ((k : ℕ) → bit k a ≡ bit k b) → a ≡ b
