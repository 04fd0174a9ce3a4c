-- A page that the calls made obeys the rules of pieces.
use Rattle.std.proofs.Common.{◌≡◌, ℕ, zero, suc, ◌+◌, ◌-◌, ◌<◌, ◌≤◌, Bool, true, cond, ltb, List, [], ◌∷◌, length, get_or, Ok, Err, Some, Result, sym, refl, ap, subst, arith}
use Rattle.std.specs.List.{slice_get, All}
use Rattle.std.proofs.lemmas.List.{length_push, length-set, length-take}
use Rattle.std.proofs.lemmas.List.Elements.{All-nil, All-push, All-set, All-take}
use Rattle.std.proofs.lemmas.Option.{get_or_from_slice_get, slice_get_within}
use Rattle.std.proofs.lemmas.Bool.{ltb-true}
use Rattle.std.proofs.lemmas.Bool.Decides.{nat_tests}
use Rattle.fault.specs.declared.refusal.Refusal.TheVariants.{PageFull, NoSuchPiece}
use Rattle.fault.specs.declared.refusal.Fault.{Fault}
use Rattle.fault.specs.Faults.{fault, then}
use Rattle.measure.specs.Measures.{Functions}
use Rattle.measure.specs.Settings.{Setting, paired}
use Rattle.page.specs.Pieces.{Held, with_page, pieces}
use Rattle.page.specs.Puts.{rising, tested, roomy, Put}
use Rattle.page.specs.Amends.{falling, Amend}
use Rattle.page.specs.Lifts.{Lift}
use Rattle.page.specs.Rules.{Rules, Obeys, Made, new_page, then_put, then_amend, then_lift, GoesOn, OpenStarts, LiftKeeps}
use Rattle.page.proofs.Tested.{passed, chosen, good, each_improves}
use Rattle.page.proofs.Placed.{length-pieces, lift_done}

-- widths that rise from a last one: the first, and the others
risen : (last i v : ℕ) (ws : List ℕ) → rising last i (v ∷ ws) ≡ Ok tt → (last < v) × ((v ≤ 24) × (rising v (i + 1) ws ≡ Ok tt))
risen last i v ws h = grind (arith, nat_tests)

-- they are above it, and at most 24
above : (last i : ℕ) (ws : List ℕ) → rising last i ws ≡ Ok tt → (k : ℕ) → k < length ws → (last < get_or ws k 0) × (get_or ws k 0 ≤ 24)
above last i [] h k b = absurd (omega arith)
above last i (v ∷ ws) h zero b = let r = risen last i v ws h in (r.0, r.1.0)
above last i (v ∷ ws) h (suc k) b = let r = risen last i v ws h in let a = above v (i + 1) ws r.1.1 k (omega arith) in (omega arith, a.1)

-- and each is above all before it
climbs : (last i : ℕ) (ws : List ℕ) → rising last i ws ≡ Ok tt → (j k : ℕ) → j < k → k < length ws → get_or ws j 0 < get_or ws k 0
climbs last i [] h j k b c = absurd (omega arith)
climbs last i (v ∷ ws) h j zero b c = absurd (omega arith)
climbs last i (v ∷ ws) h zero (suc k) b c = (above v (i + 1) ws (risen last i v ws h).1.1 k (omega arith)).0
climbs last i (v ∷ ws) h (suc j) (suc k) b c = climbs v (i + 1) ws (risen last i v ws h).1.1 j k (omega arith) (omega arith)

module _ {A : Type 0} (m : Functions A) where
  length-paired : (ws : List ℕ) (xs : List A) → length ws ≡ length xs → length (paired ws xs) ≡ length ws
  length-paired [] xs same = refl
  length-paired (w ∷ ws) [] same = absurd (omega arith)
  length-paired (w ∷ ws) (a ∷ xs) same = ap suc (length-paired ws xs (omega arith))

  -- a setting has the width and the amount at its place
  paired_at : (ws : List ℕ) (xs : List A) (i : ℕ) (s : Setting A) → slice_get (paired ws xs) i ≡ Some s → (i < length ws) × ((get_or ws i 0 ≡ s.width) × ((d : A) → get_or xs i d ≡ s.amount))
  paired_at [] xs i s e = absurd cc
  paired_at (w ∷ ws) [] i s e = absurd cc
  paired_at (w ∷ ws) (a ∷ xs) zero s e = let q : ◌≡◌ {A = Setting A} (record { width = w; amount = a }) s = cc in (omega arith, (ap (λ (t : Setting A). t.width) q, λ d. ap (λ (t : Setting A). t.amount) q))
  paired_at (w ∷ ws) (a ∷ xs) (suc i) s e = let r = paired_at ws xs i s e in (omega arith, r.1)

  -- settings that passed the tests obey the rules
  pub rules_tested : (ws : List ℕ) (xs : List A) → tested m ws xs ≡ Ok tt → Rules m (paired ws xs)
  rules_tested ws xs e =
      let p = good m ws xs e in
      let long = length-paired ws xs p.same in
      let at = paired_at ws xs in
      record {
        some = omega (arith, p.some);
        few = omega (arith, p.few);
        within = λ i s f. let a = above 0 0 ws p.rise i (at i s f).0 in let w = (at i s f).1.0 in (omega arith, omega arith);
        rise = λ i j s t b f g. let a = climbs 0 0 ws p.rise i j b (at j t g).0 in let v = (at i s f).1.0 in let w = (at j t g).1.0 in omega arith;
        improve = λ i s t f g.
            let same = p.same in
            let within = (at (i + 1) t g).0 in
            let a = each_improves m xs p.improve i s.amount (omega arith) in
            let v = (at i s f).1.1 s.amount in
            let w = (at (i + 1) t g).1.1 s.amount in
            cc;
      }

  -- a call that was accepted passed its first test, and its settings passed theirs
  accepted : {n : ℕ} (b : Bool) (a t : Result (Unit {0}) Fault) (v : ℕ) (f : Fault) → Ok n ≡ cond b (then a (λ _. then t (λ _. Ok v))) (Err f) → (b ≡ true) × (t ≡ Ok tt)
  accepted b a t v f h =
      let c = chosen b (then a (λ _. then t (λ _. Ok v))) f (sym h) in
      (c.0, (passed t (λ _. Ok v) (passed a (λ _. then t (λ _. Ok v)) c.1).1).0)

  -- `Obeys`, its pieces looked up by `get_or`
  abbrev AllObey : List (List (Setting A)) → Type 0
  AllObey ps = (length ps ≤ 12) × All (Rules m) ps

  obey_put : {h after : Held A} {ws : List ℕ} {xs : List A} (r : Result ℕ Fault) → Put m h ws xs after r → AllObey (pieces h) → AllObey (pieces after)
  obey_put (Err e) p old = rw p.holds old
  obey_put {h} {after} {ws} {xs} (Ok n) p old =
      let a = accepted (ltb h.page.count 12) (roomy (length h.widths) (length h.amounts)) (tested m ws xs) h.page.count (fault PageFull) p.answer in
      rw p.holds (omega (arith, length_push (pieces h) (paired ws xs), length-pieces h h.page.count, ltb-true h.page.count 12 a.0), All-push (Rules m) (pieces h) (paired ws xs) old.1 (rules_tested ws xs a.1))

  obey_amend : {h after : Held A} {k : ℕ} {ws : List ℕ} {xs : List A} (r : Result ℕ Fault) → Amend m h k ws xs after r → AllObey (pieces h) → AllObey (pieces after)
  obey_amend (Err e) p old = rw p.holds old
  obey_amend {h} {after} {k} {ws} {xs} (Ok n) p old =
      let a = accepted (ltb k h.page.count) (roomy (length h.widths) (length h.amounts)) (tested m ws xs) (falling h.page k) (fault NoSuchPiece) p.answer in
      rw p.holds (omega (arith, length-set (pieces h) k (paired ws xs), old.0), All-set (Rules m) (pieces h) k (paired ws xs) (rules_tested ws xs a.1) old.1)

  obey_lift : {h after : Held A} (r : Result ℕ Fault) → Lift h after r → AllObey (pieces h) → AllObey (pieces after)
  obey_lift (Err e) p old = rw p.holds old
  obey_lift {h} (Ok n) p old = rw p.holds (omega (arith, length-take (h.page.count - 1) (pieces h), old.0), All-take (Rules m) (h.page.count - 1) (pieces h) old.1)

  all_obey : (h : Held A) → Made m h → AllObey (pieces h)
  all_obey _ (new_page breadth widths amounts low high) = (omega arith, All-nil (Rules m))
  all_obey _ (then_put {h = h} {r = r} made p) = obey_put r p (all_obey h made)
  all_obey _ (then_amend {h = h} {r = r} made p) = obey_amend r p (all_obey h made)
  all_obey _ (then_lift {h = h} {r = r} made p) = obey_lift r p (all_obey h made)

  pub pages_obey : (h : Held A) → Made m h → Obeys m (pieces h)
  pages_obey h made =
      let a = all_obey h made in
      record {
        dozen = a.0;
        each = λ k p e. subst (Rules m) (get_or_from_slice_get (pieces h) k p p e) (a.1 k p (slice_get_within (pieces h) k p e));
      }

  -- a run that goes on obeys the rules
  pub goes_on : (h after : Held A) → (Made m h → Made m after) → GoesOn m h after
  goes_on h after step made = (step made, pages_obey after (step made))

  -- a refused call leaves all as it was
  pub stays : (h after : Held A) → after ≡ h → GoesOn m h after
  stays h after e = goes_on h after (subst (Made m) (sym e))

pub put_runs : {A : Type 0} {m : Functions A} {h after : Held A} {ws : List ℕ} {xs : List A} {r : Result ℕ Fault} → Put m h ws xs after r → GoesOn m h after
put_runs {m} {h} {after} p = goes_on m h after (λ made. then_put made p)

pub amend_runs : {A : Type 0} {m : Functions A} {h after : Held A} {k : ℕ} {ws : List ℕ} {xs : List A} {r : Result ℕ Fault} → Amend m h k ws xs after r → GoesOn m h after
amend_runs {m} {h} {after} p = goes_on m h after (λ made. then_amend made p)

pub open_starts : {A : Type 0} (m : Functions A) → OpenStarts m
open_starts m h breadth q (Ok u) a l = (λ _. starts, goes_on m h (with_page q h) (λ _. starts))
  where
    starts : Made m (with_page q h)
    starts =
        let b : (1 ≤ breadth) × (breadth ≤ 24) = grind (arith, nat_tests) in
        rw l (new_page breadth h.widths h.amounts b.0 b.1)
open_starts m h breadth q (Err e) a l = (λ s. absurd cc, goes_on m h (with_page q h) (λ made. rw l made))

pub lift_keeps : {A : Type 0} (m : Functions A) → LiftKeeps m
lift_keeps m h q r a l = let d = lift_done h q r a l in (d, goes_on m h (with_page q h) (λ made. then_lift made d))
