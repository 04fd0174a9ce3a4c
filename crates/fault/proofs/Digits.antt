-- How many digits a number has, and digits written so that they end at a place.
use Rattle.std.proofs.Common.{◌≡◌, ℕ, zero, suc, ◌+◌, ◌*◌, ◌/◌, ◌%◌, ◌^◌, ◌<◌, ◌≤◌, List, [], ◌∷◌, ◌++◌, length, take, drop, decimal, sym, ap, ◌∙◌, arith}
use Rattle.std.proofs.lemmas.List.{length-append, take-append-drop}
use Rattle.std.proofs.lemmas.Fmt.{decimal_by_steps, length-decimal-le}
use Rattle.fault.specs.Written.{overwrite}

-- a power of ten is not 0
some_power : (k : ℕ) → 1 ≤ 10 ^ k
some_power zero = omega arith
some_power (suc k) = omega (arith, some_power k)

-- a number that is 10 ^ k or more has more than k digits
more_digits : (k n : ℕ) → 10 ^ k ≤ n → n < 2 ^ 64 → k + 1 ≤ length (decimal n)
more_digits k n h f = decimal_by_steps (λ m ds. (j : ℕ) → 10 ^ j ≤ m → j + 1 ≤ length ds) one more n f k h
  where
    one : (m : ℕ) → m < 10 → (j : ℕ) → 10 ^ j ≤ m → j + 1 ≤ length ((48 + m) ∷ [])
    one m l zero a = omega arith
    one m l (suc j) a = absurd (omega (arith, some_power j))

    more : (m : ℕ) (ds : List ℕ) → 10 ≤ m → ((j : ℕ) → 10 ^ j ≤ m / 10 → j + 1 ≤ length ds) → (j : ℕ) → 10 ^ j ≤ m → j + 1 ≤ length (ds ++ ((48 + m % 10) ∷ []))
    more m ds l h zero a = omega (arith, length-append ds ((48 + m % 10) ∷ []))
    more m ds l h (suc j) a = let rest : 10 ^ j ≤ m / 10 = omega arith in omega (arith, length-append ds ((48 + m % 10) ∷ []), h j rest)

-- a number from 10 ^ k on that is below ten times as much has k + 1 digits
pub digits_between : (k n : ℕ) → 10 ^ k ≤ n → n < 10 * 10 ^ k → n < 2 ^ 64 → k + 1 ≡ length (decimal n)
digits_between k n low high f = let below : n < 10 ^ suc k = omega arith in omega (arith, more_digits k n low f, length-decimal-le (suc k) n (omega arith) below f)

-- text that was written so that it ends at a place was laid over from where it starts
pub overwrite_to : {A : Type 0} (start end : ℕ) (xs o new : List A) → start + length xs ≡ end → drop start new ≡ xs ++ drop end o → take start new ≡ take start o → new ≡ overwrite start xs o
overwrite_to start end xs o new e behind before =
    sym (take-append-drop start new) ∙ (λ i. before i ++ behind i) ∙ ap (λ k. take start o ++ (xs ++ drop k o)) (sym e)
