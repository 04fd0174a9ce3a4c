-- The pieces of cells, gathered entry by entry.
use Rattle.std.proofs.Common.{◌≡◌, ℕ, ◌+◌, ◌<◌, List, [], ◌∷◌, length, map, Some, None, Option, refl, sym, ap, subst, arith, Bor, ControlFlow}
use Rattle.std.specs.ControlFlow.{continue_value}
use Rattle.std.specs.List.{FoldsTo}
use Rattle.std.specs.Fn.{Called}
use Rattle.std.specs.Iterator.{TryFoldTurn, TryFoldsItems}
use Rattle.std.proofs.lemmas.Iterator.{YieldsList}
use Rattle.std.proofs.lemmas.Iterator.Consumers.{YieldsList-so_far, YieldsList-turn, YieldsList-end}
use Rattle.std.proofs.lemmas.List.Sums.{sum_by-cons, sum_by_more, sum_by-take-le}
use Rattle.std.proofs.lemmas.Nat.Bits.{bit_at-zero}
use denote.Param.Members.{Mut}
use Rattle.layout.specs.declared.entry.Entry.{Entry}
use Rattle.layout.specs.Sets.{bit}
use Rattle.layout.specs.Readings.{cell_count, Collected}
use Rattle.layout.proofs.Cells.{adds}

-- what a set counts after one entry more
abbrev pub Next : ℕ → Entry → Option ℕ → Type 0
Next set e = Collected (λ k. bit k set + adds k e)

-- how a turn of `try_fold` goes on, and what it hands over where it breaks off
abbrev pub Goes : (E : Type 0) → Option ℕ → ControlFlow E ℕ → Type 0
Goes E v c = v ≡ continue_value c

abbrev pub Stops : (E : Type 0) → E → Option ℕ → Type 0
Stops E _ v = v ≡ None

module _ (E : Type 0) {F : Type 0} (g : Mut F (ℕ × (Bor Entry × Unit {0})) (Option ℕ)) (next : (f f' : F) (a : ℕ) (x : Bor Entry) (v : Option ℕ) → Called g f (a, (x, tt)) v f' → Next a x.now v) where
  -- one entry after another
  so_far : (xs : List (Bor Entry)) (p q : F × ℕ) → FoldsTo (TryFoldTurn g (Goes E)) p xs q → (k : ℕ) → k < 16 → bit k q.1 ≡ bit k p.1 + cell_count k (map (λ x. x.now) xs)
  so_far [] p q e k b = omega (arith, ap (λ p. bit k p.1) e)
  so_far (x ∷ xs) p q (j, (v, call, on), rest) k b = omega (arith, subst (Next p.1 x.now) on (next p.0 j.0 p.1 x v call) k b, so_far xs j q rest k b, sum_by-cons (adds k) x.now (map (λ y. y.now) xs))

  -- all of them, or those before a piece that is there already
  pub collected : {S : Type 0} {steps : S → Option (Bor Entry) → S → Type 0} (s u : S) (f : F) (r : Option ℕ) (es : List Entry) → TryFoldsItems steps g (Goes E) (Stops E) s f 0 r u → YieldsList steps (λ x. x.now) s es → Collected (λ k. cell_count k es) r
  collected s u f r es (xs, None, f', a, (t, y, last), turns, end) road =
      subst (Collected (λ k. cell_count k es)) (sym end)
      (λ k b. omega (arith, bit_at-zero k, so_far xs (f, 0) (f', a) turns k b, ap (cell_count k) (YieldsList-end road xs t y None u refl last).0))
  collected s u f r es (xs, Some x, f', a, (t, y, last), turns, (v, h, e, call, off, stopped)) road =
      let (k, b, two) = subst (Next a x.now) off (next f' h a x v call) in
      let (inside, here) = YieldsList-turn road xs t y (Some x) u x refl last in
      let before = so_far xs (f, 0) (f', a) turns k b in
      let front = ap (cell_count k) (YieldsList-so_far road xs t y) in
      let this = ap (adds k) here in
      subst (Collected (λ k. cell_count k es)) (sym stopped)
      (k, b, omega (arith, bit_at-zero k, sum_by_more (adds k) es (length xs) x.now inside, sum_by-take-le (adds k) es (length xs + 1)))
