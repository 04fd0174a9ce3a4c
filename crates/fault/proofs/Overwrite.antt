-- Laws of text laid over a part of a list.
use Rattle.std.proofs.Common.{◌≡◌, ℕ, suc, ◌+◌, ◌<◌, ◌≤◌, true, false, leb, ◌⊎◌, List, [], ◌∷◌, ◌++◌, length, take, drop, set, Ok, Err, Result, sym, ap, ◌∙◌, inl, inr, arith}
use Rattle.std.proofs.lemmas.List.{append_assoc, length-append, length-take-le, length-drop, take_at, take-take, take-append-le, drop_at, drop-drop, set_split}
use Rattle.std.proofs.lemmas.Bool.{le-leb}
use Rattle.std.proofs.lemmas.Bool.Decides.{leb_tells}
use Rattle.fault.specs.declared.refusal.Refusal.TheVariants.{Memory}
use Rattle.fault.specs.declared.refusal.Fault.{Fault}
use Rattle.fault.specs.Faults.{fault}
use Rattle.fault.specs.Written.{overwrite, Written}

pub length-overwrite : {A : Type 0} (at : ℕ) (xs o : List A) → at + length xs ≤ length o → length (overwrite at xs o) ≡ length o
length-overwrite at xs o h =
    omega (arith, length-append (take at o) (xs ++ drop (at + length xs) o), length-append xs (drop (at + length xs) o), length-take-le at o (omega arith), length-drop (at + length xs) o)

-- two texts, one behind the other
pub overwrite_more : {A : Type 0} (at : ℕ) (xs ys o : List A) → at + length xs ≤ length o → overwrite (at + length xs) ys (overwrite at xs o) ≡ overwrite at (xs ++ ys) o
overwrite_more at xs ys o h =
    let n : length (take at o ++ xs) ≡ at + length xs = omega (arith, length-append (take at o) xs, length-take-le at o (omega arith)) in
    let tail = drop (at + length xs) o in
    let e : overwrite at xs o ≡ (take at o ++ xs) ++ tail = sym (append_assoc (take at o) xs tail) in
    let front : take (at + length xs) (overwrite at xs o) ≡ take at o ++ xs = ap (take (at + length xs)) e ∙ take_at (take at o ++ xs) tail (at + length xs) n in
    let back : drop (at + length xs + length ys) (overwrite at xs o) ≡ drop (at + length xs + length ys) o =
    sym (drop-drop (length ys) (at + length xs) (overwrite at xs o)) ∙ ap (drop (length ys)) (ap (drop (at + length xs)) e ∙ drop_at (take at o ++ xs) tail (at + length xs) n) ∙ drop-drop (length ys) (at + length xs) o in
    let m : at + length xs + length ys ≡ at + length (xs ++ ys) = omega (arith, length-append xs ys) in
    (λ i. front i ++ (ys ++ back i)) ∙ append_assoc (take at o) xs (ys ++ drop (at + length xs + length ys) o)
    ∙ ap (λ l. take at o ++ l) (sym (append_assoc xs ys (drop (at + length xs + length ys) o)))
    ∙ ap (λ k. take at o ++ ((xs ++ ys) ++ drop k o)) m

-- the same, the second text first
pub overwrite_before : {A : Type 0} (at : ℕ) (xs ys o : List A) → at + length xs ≤ length o → overwrite at xs (overwrite (at + length xs) ys o) ≡ overwrite at (xs ++ ys) o
overwrite_before at xs ys o h =
    let front = take (at + length xs) o in
    let rest = ys ++ drop (at + length xs + length ys) o in
    let long : length front ≡ at + length xs = length-take-le (at + length xs) o h in
    let left : take at (front ++ rest) ≡ take at o = take-append-le at front rest (omega arith) ∙ take-take at (at + length xs) o (omega arith) in
    let m : at + length xs + length ys ≡ at + length (xs ++ ys) = omega (arith, length-append xs ys) in
    (λ i. left i ++ (xs ++ drop_at front rest (at + length xs) long i))
    ∙ ap (λ l. take at o ++ l) (sym (append_assoc xs ys (drop (at + length xs + length ys) o)))
    ∙ ap (λ k. take at o ++ ((xs ++ ys) ++ drop k o)) m

pub overwrite_one : {A : Type 0} (at : ℕ) (x : A) (o : List A) → at < length o → set o at x ≡ overwrite at (x ∷ []) o
overwrite_one at x o h = set_split o at x h ∙ (let e : suc at ≡ at + 1 = omega arith in ap (λ n. take at o ++ x ∷ drop n o) e)

-- where there is room, what is laid over the memory is written there
pub wrote : {A : Type 0} (room : ℕ) (xs before : List A) (at : ℕ) (after : List A) (r : ℕ) → length xs ≤ room → at + room ≤ length before → after ≡ overwrite at xs before → r ≡ at + length xs → Written room xs before at after (Ok r)
wrote room xs before at after r short h e k = let b = le-leb _ _ h in record { within = λ _. short; answer = rw b (ap Ok k); memory = rw b e }

-- what was answered with a place was written there
pub written_ok : {A : Type 0} (room : ℕ) (xs before : List A) (at : ℕ) (after : List A) (r : Result ℕ Fault) (end : ℕ) → Written room xs before at after r → r ≡ Ok end → (at + room ≤ length before) × ((end ≡ at + length xs) × (after ≡ overwrite at xs before))
written_ok room xs before at after r end w e = by (leb_tells (at + room) (length before))
  where
    by : ((leb (at + room) (length before) ≡ true) × (at + room ≤ length before)) ⊎ ((leb (at + room) (length before) ≡ false) × (length before < at + room)) → (at + room ≤ length before) × ((end ≡ at + length xs) × (after ≡ overwrite at xs before))
    by (inl p) = let a : r ≡ Ok (at + length xs) = w.answer ∙ rw p.0 in (p.1, (cc, w.memory ∙ rw p.0))
    by (inr p) = let a : r ≡ Err (fault Memory) = w.answer ∙ rw p.0 in let z : ◌≡◌ {A = ℕ} 0 1 = cc in absurd (omega arith)
