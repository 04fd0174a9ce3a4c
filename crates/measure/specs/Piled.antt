-- Each layer keeps the laws of the measure below it. Assumes nothing.
use Rattle.std.specs.Prelude.{◌≡◌, Bool, true, false, cond, Some, None, Option, refl}
use Rattle.std.proofs.Common.{sym, ◌∙◌}
use Rattle.std.proofs.lemmas.Bool.{false≢true}
use Rattle.measure.specs.Measures.{Functions, Laws, NoWorse}
use Rattle.measure.specs.Products.{gutter, ceiling, then, kept}

module _ {A : Type 0} (m : Functions A) (laws : Laws m) where
  -- a second cut after the first keeps the order
  again : (x x' : Option A) (b b' : A) → NoWorse m.no_worse x x' → m.no_worse b b' ≡ true → NoWorse m.no_worse (then x (λ s. m.above s b)) (then x' (λ s. m.above s b'))
  again x None b b' h k = tt
  again (Some a) (Some a') b b' h k = laws.above_keeps a a' b b' h k
  again None (Some a') b b' h k = absurd h

  pub gutter_laws : (gap : A) → Laws (gutter m gap)
  gutter_laws gap = record {
    itself = laws.itself;
    total = laws.total;
    chain = laws.chain;
    beside_keeps = laws.beside_keeps;
    above_keeps = λ a a' b b' h k. again _ _ b b' (laws.above_keeps a a' gap gap h (laws.itself gap)) k;
  }

  chosen : (c a a' : A) (u v : Bool) → m.no_worse a a' ≡ true → m.no_worse a c ≡ u → m.no_worse a' c ≡ v → NoWorse m.no_worse (cond u (Some a) None) (cond v (Some a') None)
  chosen c a a' u false h p q = tt
  chosen c a a' true true h p q = h
  chosen c a a' false true h p q = let kept : m.no_worse a c ≡ true = laws.chain a a' c h q in absurd (false≢true (sym p ∙ kept))

  pub ceiling_laws : (c : A) → Laws (ceiling m c)
  ceiling_laws c = record {
    itself = laws.itself;
    total = laws.total;
    chain = laws.chain;
    beside_keeps = λ a a' b b' h k. within _ _ (laws.beside_keeps a a' b b' h k);
    above_keeps = λ a a' b b' h k. within _ _ (laws.above_keeps a a' b b' h k);
  } where
    within : (x x' : Option A) → NoWorse m.no_worse x x' → NoWorse m.no_worse (kept m c x) (kept m c x')
    within x None h = tt
    within (Some a) (Some a') h = chosen c a a' _ _ h refl refl
    within None (Some a') h = absurd h
