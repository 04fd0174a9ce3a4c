-- What a writer has written so far, text behind text.
use Rattle.std.proofs.Common.{◌≡◌, ℕ, ◌+◌, ◌^◌, ◌<◌, ◌≤◌, true, false, leb, ◌⊎◌, inl, inr, List, ◌++◌, length, Ok, Err, decimal, Result, ap, ◌∙◌, arith}
use Rattle.std.proofs.lemmas.List.{length-append}
use Rattle.std.proofs.lemmas.Bool.{le-leb}
use Rattle.std.proofs.lemmas.Bool.Decides.{leb_tells}
use Rattle.std.proofs.lemmas.Fmt.{length-decimal-le}
use Rattle.fault.specs.declared.refusal.Refusal.TheVariants.{Memory}
use Rattle.fault.specs.declared.refusal.Fault.{Fault}
use Rattle.fault.specs.Faults.{fault}
use Rattle.fault.specs.declared.writer.Writer.{Writer}
use Rattle.fault.specs.Written.{overwrite, room_wanted, labelled}
use Rattle.fault.specs.WrittenBy.{WrittenBy}
use Rattle.fault.proofs.Overwrite.{length-overwrite, overwrite_more}

-- from the place of w on stands xs, of at most k bytes, and v goes on behind it in the same memory
pub record Filled (k : ℕ) (w : Writer) (xs : List ℕ) (v : Writer) : Type 0 where
  pub short : length xs ≤ k
  pub same : v.out.ghost_name ≡ w.out.ghost_name
  pub memory : v.out.now ≡ overwrite w.at xs w.out.now
  pub behind : v.at ≡ w.at + length xs

-- the bytes that a label and a number of at most k digits take
pub labelled_short : (k : ℕ) (label : List ℕ) (n : ℕ) → 0 < k → n < 10 ^ k → n < 2 ^ 64 → length (labelled label n) ≤ length label + k
labelled_short k label n p h f = omega (arith, length-append label (decimal n), length-decimal-le k n p h f)

module _ (room : ℕ) (w : Writer) (fits : w.at + room ≤ length w.out.now) where
  -- where there is room, a text is not refused
  pub filled_first : (j m : ℕ) (ys : List ℕ) (u : Writer) (r : Result (Unit {0}) Fault) → m ≤ j → j ≤ room → WrittenBy m ys w u r → (r ≡ Ok tt) × Filled j w ys u
  filled_first j m ys u r less enough g =
      let h : w.at + m ≤ length w.out.now = omega arith in
      let b = le-leb (w.at + m) (length w.out.now) h in (
        g.answer ∙ rw b,
        record { short = omega (arith, g.within h); same = g.same; memory = g.memory ∙ rw b; behind = g.behind ∙ rw b },
      )

  -- nor is one behind the others
  pub filled_more : (k j m : ℕ) (xs ys : List ℕ) (v u : Writer) (r : Result (Unit {0}) Fault) → k + m ≤ j → j ≤ room → Filled k w xs v → WrittenBy m ys v u r → (r ≡ Ok tt) × Filled j w (xs ++ ys) u
  filled_more k j m xs ys v u r less enough f g =
      let long : length v.out.now ≡ length w.out.now = ap length f.memory ∙ length-overwrite w.at xs w.out.now (omega (arith, f.short)) in
      let h : v.at + m ≤ length v.out.now = omega (arith, f.short, f.behind) in
      let b = le-leb (v.at + m) (length v.out.now) h in (
        g.answer ∙ rw b,
        record {
          short = omega (arith, length-append xs ys, f.short, g.within h);
          same = g.same ∙ f.same;
          memory = g.memory ∙ rw b ((λ i. overwrite (f.behind i) ys (f.memory i)) ∙ overwrite_more w.at xs ys w.out.now (omega (arith, f.short)));
          behind = g.behind ∙ rw b (omega (arith, length-append xs ys, f.behind));
        },
      )

  -- the same of a number of at most k digits behind its label
  pub labelled_first : (k j : ℕ) (label : List ℕ) (n : ℕ) (u : Writer) (r : Result (Unit {0}) Fault) → 0 < k → n < 10 ^ k → n < 2 ^ 64 → length label + k ≤ j → j ≤ room → WrittenBy (length (labelled label n)) (labelled label n) w u r → (r ≡ Ok tt) × Filled j w (labelled label n) u
  labelled_first k j label n u r p small wide less = filled_first j _ _ u r (omega (arith, labelled_short k label n p small wide))

  pub labelled_more : (i k j : ℕ) (xs label : List ℕ) (n : ℕ) (v u : Writer) (r : Result (Unit {0}) Fault) → 0 < k → n < 10 ^ k → n < 2 ^ 64 → i + (length label + k) ≤ j → j ≤ room → Filled i w xs v → WrittenBy (length (labelled label n)) (labelled label n) v u r → (r ≡ Ok tt) × Filled j w (xs ++ labelled label n) u
  labelled_more i k j xs label n v u r p small wide less = filled_more i j _ xs _ v u r (omega (arith, labelled_short k label n p small wide))

  -- all of it together
  pub filled_wrote : (k : ℕ) (xs ys : List ℕ) (v : Writer) (r : Result (Unit {0}) Fault) → k ≤ room → r ≡ Ok tt → xs ≡ ys → Filled k w xs v → WrittenBy room ys w v r
  filled_wrote k xs ys v r less ok e f =
      let b = le-leb (w.at + room) (length w.out.now) fits in
      record {
        same = f.same;
        within = λ _. omega (arith, f.short, ap length e);
        answer = ok ∙ rw b;
        memory = rw b (f.memory ∙ ap (λ t. overwrite w.at t w.out.now) e);
        behind = rw b (omega (arith, f.behind, ap length e));
      }

pub not_refused : {A : Type 0} (a : A) (r : Result A Fault) (e : Fault) → r ≡ Ok a → r ≡ Err e → ⊥
not_refused a r e p q = let z : ◌≡◌ {A = ℕ} 0 1 = cc in omega arith

-- so no refusal came there
pub stopped : {j : ℕ} {w : Writer} {xs : List ℕ} {v : Writer} {r : Result (Unit {0}) Fault} {e : Fault} → (r ≡ Ok tt) × Filled j w xs v → r ≡ Err e → ⊥
stopped {r = r} {e = e} x is = not_refused tt r e x.0 is

-- what was not refused for want of memory has room
pub room_there : (size at count : ℕ) (r : Result (Unit {0}) Fault) → r ≡ room_wanted size at count → r ≡ Ok tt → at + count ≤ size
room_there size at count r p q = by (leb_tells (at + count) size)
  where
    by : ((leb (at + count) size ≡ true) × (at + count ≤ size)) ⊎ ((leb (at + count) size ≡ false) × (size < at + count)) → at + count ≤ size
    by (inl h) = h.1
    by (inr h) = absurd (not_refused tt r (fault Memory) q (p ∙ rw h.0))

-- and what was refused has none
pub room_short : (size at count : ℕ) (r : Result (Unit {0}) Fault) (e : Fault) → r ≡ room_wanted size at count → r ≡ Err e → (size < at + count) × (e ≡ fault Memory)
room_short size at count r e p q = by (leb_tells (at + count) size)
  where
    by : ((leb (at + count) size ≡ true) × (at + count ≤ size)) ⊎ ((leb (at + count) size ≡ false) × (size < at + count)) → (size < at + count) × (e ≡ fault Memory)
    by (inl h) = absurd (not_refused tt r e (p ∙ rw h.0) q)
    by (inr h) = let short : r ≡ Err (fault Memory) = p ∙ rw h.0 in (h.1, cc)
