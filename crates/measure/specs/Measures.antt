-- What a measure is: four functions on amounts of one kind, and two laws.
use Rattle.std.specs.Prelude.{◌≡◌, Bool, true, not, ◌&&◌, ◌⊎◌, Some, None, Option}

-- a measure's four functions; `cell`, `beside` and `above` give an amount or nothing
pub record Functions (A : Type 0) : Type 0 where
  pub no_worse : A → A → Bool
  pub cell : A → Option A
  pub beside : A → A → Option A
  pub above : A → A → Option A

-- no worse, but not the other way round
abbrev pub better : {A : Type 0} → Functions A → A → A → Bool
better m a b = m.no_worse a b && not (m.no_worse b a)

-- where y is an amount, x is one that is no worse
abbrev pub NoWorse : {A : Type 0} → (A → A → Bool) → Option A → Option A → Type 0
NoWorse no_worse x None = Unit {0}
NoWorse no_worse (Some a) (Some b) = no_worse a b ≡ true
NoWorse no_worse None (Some b) = ⊥

-- a cut of parts that are no worse gives an amount that is no worse, wherever the other cut gives one
abbrev pub Monotone : {A : Type 0} → (A → A → Bool) → (A → A → Option A) → Type 0
Monotone {A} no_worse cut = (a a' b b' : A) → no_worse a a' ≡ true → no_worse b b' ≡ true → NoWorse no_worse (cut a b) (cut a' b')

-- the first law, that no_worse is a total preorder, in three parts; and the second, that both cuts are monotone
pub record Laws {A : Type 0} (m : Functions A) : Type 0 where
  pub itself : (a : A) → m.no_worse a a ≡ true
  pub total : (a b : A) → (m.no_worse a b ≡ true) ⊎ (m.no_worse b a ≡ true)
  pub chain : (a b c : A) → m.no_worse a b ≡ true → m.no_worse b c ≡ true → m.no_worse a c ≡ true
  pub beside_keeps : Monotone m.no_worse m.beside
  pub above_keeps : Monotone m.no_worse m.above
