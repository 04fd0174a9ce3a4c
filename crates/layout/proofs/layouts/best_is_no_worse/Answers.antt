use Rattle.std.proofs.Common.{◌≡◌, Bool, true, false, not, ◌&&◌, ◌⊎◌, refl, inl, inr, arith}
use Rattle.measure.specs.Measures.{Functions, Laws, better}
use Rattle.layout.proofs.layouts.best_is_no_worse.Goals as goal

-- of two amounts, the second of which is not better
unbeaten : {A : Type 0} (m : Functions A) → Laws m → (a b : A) → better m b a ≡ false → m.no_worse a b ≡ true
unbeaten m laws a b e = by (m.no_worse a b) (m.no_worse b a) e (laws.total a b)
  where
    by : (u v : Bool) → (v && not u) ≡ false → (u ≡ true) ⊎ (v ≡ true) → u ≡ true
    by true v h t = refl
    by false true h t = absurd (grind arith)
    by false false h (inl e) = e
    by false false h (inr e) = e

pub returns : goal.returns
returns g c ps w x a best y b f = unbeaten _ (g.met.M.Measure.lawful c.args._m.now) a b (best.unbeaten y b f)
