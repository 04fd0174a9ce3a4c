-- What the tests of settings and tables say.
use Rattle.std.proofs.Common.{◌≡◌, ℕ, zero, suc, ◌+◌, ◌<◌, ◌≤◌, Bool, true, false, cond, List, [], ◌∷◌, length, get_or, Ok, Err, Result, refl, add-one, arith}
use Rattle.std.proofs.lemmas.Bool.Decides.{nat_tests}
use Rattle.fault.specs.declared.refusal.Refusal.TheVariants.{Amount}
use Rattle.fault.specs.declared.refusal.Fault.{Fault}
use Rattle.fault.specs.Faults.{fault_at, then}
use Rattle.measure.specs.Measures.{Functions, better}
use Rattle.page.specs.Puts.{counted, rising, improving, all_improving, tested, roomy, laying}

-- what a test chose, where it was no refusal
pub chosen : {B : Type 0} {v : B} (b : Bool) (r : Result B Fault) (f : Fault) → cond b r (Err f) ≡ Ok v → (b ≡ true) × (r ≡ Ok v)
chosen true r f h = (refl, h)
chosen false r f h = absurd cc

module _ {A : Type 0} (m : Functions A) where
  -- amounts that are each better than the one before, the first better than a last
  improving_all : (last : A) (i : ℕ) (xs : List A) → ((j : ℕ) (d : A) → j < length xs → better m (get_or xs j d) (get_or (last ∷ xs) j d) ≡ true) → improving m last i xs ≡ Ok tt
  improving_all last i [] all = refl
  improving_all last i (x ∷ xs) all = rw (all 0 x (omega arith)) (improving_all x (i + 1) xs (λ j d b. all (suc j) d (omega arith)))

  improving_each : (last : A) (i : ℕ) (xs : List A) → improving m last i xs ≡ Ok tt → (j : ℕ) (d : A) → j < length xs → better m (get_or xs j d) (get_or (last ∷ xs) j d) ≡ true
  improving_each last i [] h j d b = absurd (omega arith)
  improving_each last i (x ∷ xs) h zero d b = (chosen (better m x last) (improving m x (i + 1) xs) (fault_at Amount i) h).0
  improving_each last i (x ∷ xs) h (suc j) d b = improving_each x (i + 1) xs (chosen (better m x last) (improving m x (i + 1) xs) (fault_at Amount i) h).1 j d (omega arith)

  -- and amounts of which one is the first that is not
  improving_to : (last : A) (i : ℕ) (xs : List A) (k n : ℕ) → n ≡ i + k → k < length xs → ((j : ℕ) (d : A) → j < k → better m (get_or xs j d) (get_or (last ∷ xs) j d) ≡ true) → ((d : A) → better m (get_or xs k d) (get_or (last ∷ xs) k d) ≡ false) → improving m last i xs ≡ Err (fault_at Amount n)
  improving_to last i [] k n e b all worse = absurd (omega arith)
  improving_to last i (x ∷ xs) zero n e b all worse = let at : n ≡ i = omega arith in rw (worse x, at)
  improving_to last i (x ∷ xs) (suc k) n e b all worse = rw (all 0 x (omega arith)) (improving_to x (i + 1) xs k n (omega arith) (omega arith) (λ j d c. all (suc j) d (omega arith)) worse)

  -- the same of amounts of which no last one is known
  pub all_improve : (xs : List A) → ((k : ℕ) (d : A) → k + 1 < length xs → better m (get_or xs (k + 1) d) (get_or xs k d) ≡ true) → all_improving m xs ≡ Ok tt
  all_improve [] all = refl
  all_improve (x ∷ xs) all = improving_all x 1 xs (λ j d b. rw add-one at (all j d (omega arith)))

  pub each_improves : (xs : List A) → all_improving m xs ≡ Ok tt → (k : ℕ) (d : A) → k + 1 < length xs → better m (get_or xs (k + 1) d) (get_or xs k d) ≡ true
  each_improves [] h k d b = absurd (omega arith)
  each_improves (x ∷ xs) h k d b = rw add-one (improving_each x 1 xs h k d (omega arith))

  pub first_worse : (xs : List A) (k : ℕ) → k + 1 < length xs → ((j : ℕ) (d : A) → j < k → better m (get_or xs (j + 1) d) (get_or xs j d) ≡ true) → ((d : A) → better m (get_or xs (k + 1) d) (get_or xs k d) ≡ false) → all_improving m xs ≡ Err (fault_at Amount (k + 1))
  first_worse [] k b all worse = absurd (omega arith)
  first_worse (x ∷ xs) k b all worse = improving_to x 1 xs k (k + 1) (omega arith) (omega arith) (λ j d c. rw add-one at (all j d c)) (λ d. rw add-one at (worse d))

-- a test that passed, and what followed it
pub passed : {B : Type 0} {v : B} (a : Result (Unit {0}) Fault) (next : Unit {0} → Result B Fault) → then a next ≡ Ok v → (a ≡ Ok tt) × (next tt ≡ Ok v)
passed (Ok u) next h = (refl, h)
passed (Err f) next h = absurd cc

-- settings that passed their tests
pub record Good {A : Type 0} (m : Functions A) (ws : List ℕ) (xs : List A) : Type 0 where
  pub some : 1 ≤ length ws
  pub few : length ws ≤ 8
  pub same : length ws ≡ length xs
  pub rise : rising 0 0 ws ≡ Ok tt
  pub improve : all_improving m xs ≡ Ok tt

counted_count : (n k : ℕ) → counted n k ≡ Ok tt → (1 ≤ n) × ((n ≤ 8) × (n ≡ k))
counted_count n k e = grind (arith, nat_tests)

pub good : {A : Type 0} (m : Functions A) (ws : List ℕ) (xs : List A) → tested m ws xs ≡ Ok tt → Good m ws xs
good m ws xs e =
    let t = passed (counted (length ws) (length xs)) (λ _. then (rising 0 0 ws) (λ _. all_improving m xs)) e in
    let u = passed (rising 0 0 ws) (λ _. all_improving m xs) t.1 in
    let n = counted_count (length ws) (length xs) t.0 in
    record { some = n.0; few = n.1.0; same = n.1.1; rise = u.0; improve = u.1 }

-- settings that were laid into tables of so many places, as so many
pub record Fitting {A : Type 0} (m : Functions A) (ws : List ℕ) (xs : List A) (widths amounts n : ℕ) : Type 0 where
  pub wide : 96 ≤ widths
  pub deep : 96 ≤ amounts
  pub room : roomy widths amounts ≡ Ok tt
  pub test : tested m ws xs ≡ Ok tt
  pub number : n ≡ length ws
  pub good : Good m ws xs

roomy_ample : (n k : ℕ) → roomy n k ≡ Ok tt → (96 ≤ n) × (96 ≤ k)
roomy_ample n k e = grind (arith, nat_tests)

pub fitting : {A : Type 0} (m : Functions A) (ws : List ℕ) (xs : List A) (widths amounts n : ℕ) → laying m widths amounts ws xs ≡ Ok n → Fitting m ws xs widths amounts n
fitting m ws xs widths amounts n e =
    let r = passed (roomy widths amounts) (λ _. then (tested m ws xs) (λ _. Ok (length ws))) e in
    let t = passed (tested m ws xs) (λ _. Ok (length ws)) r.1 in
    let a = roomy_ample widths amounts r.0 in
    record { wide = a.0; deep = a.1; room = r.0; test = t.0; number = cc; good = good m ws xs t.0 }
