-- What a list of entries ends with, from its last entry and what stands before it.
use Rattle.std.proofs.Common.{◌≡◌, ℕ, List, [], ◌∷◌, ◌++◌, length, take, Some, None, Option, sym, refl, ap, ◌∙◌, subst, arith}
use Rattle.std.proofs.lemmas.List.{length-append, take_at, same_from_push}
use Rattle.layout.specs.declared.entry.Cut.{Cut}
use Rattle.layout.specs.declared.entry.Kind.{Kind}
use Rattle.layout.specs.declared.entry.Kind.TheVariants as kinds
use Rattle.layout.specs.declared.entry.Entry.{Entry}
use Rattle.layout.specs.Layouts.{Layout, cell, cut}
use Rattle.layout.specs.Entries.{cell_entry, cut_entry, entries}
use Rattle.layout.specs.Readings.{CellEntry, CutEntry, Ending, Begins}
use Rattle.layout.proofs.Endings.{cut_last, some_entry, cell_no_cut, one_ending}

pub cell_is : (e : Entry) → CellEntry e → cell_entry e.piece e.setting ≡ e
cell_is e p = (λ i. record { kind = sym p.is i; piece = e.piece; setting = e.setting })

pub cut_is : (e : Entry) → CutEntry e → (c : Cut) × (cut_entry c ≡ e)
cut_is e p = let k = by e.kind p.is in (k.0, (λ i. record { kind = k.1 i; piece = sym p.piece i; setting = sym p.setting i }))
  where
    by : (k : Kind) → (k ≡ kinds.Cell → ⊥) → (c : Cut) × (kinds.Cut c ≡ k)
    by kinds.Cell none = absurd (none refl)
    by (kinds.Cut c) none = (c, refl)

-- no entries end with none
pub none_ends : (es : List Entry) → length es ≡ 0 → Begins es None
none_ends es zero front x h = omega (arith, ap length h.spelt, length-append front (entries x), some_entry x)

module _ (es before : List Entry) (e : Entry) (is : es ≡ before ++ (e ∷ [])) where
  pub cell_begins : CellEntry e → Begins es (Some (length before))
  cell_begins p = (before, cell e.piece e.setting, record { spelt = ap (λ x. before ++ (x ∷ [])) (cell_is e p) ∙ sym is; lettered = (p.piece, p.setting) }, refl)

  pub last_cell : (front : List Entry) (k i : ℕ) → Ending es front (cell k i) → CellEntry e
  last_cell front k i h = subst CellEntry (same_from_push front before (cell_entry k i) e (h.spelt ∙ is)).1 (record { is = refl; piece = h.lettered.0; setting = h.lettered.1 })

  pub last_parts : (front : List Entry) (c : Cut) (x y : Layout) → Ending es front (cut c x y) → ((front ++ entries x) ++ entries y ≡ before) × (cut_entry c ≡ e)
  last_parts front c x y h = same_from_push _ before (cut_entry c) e (sym (cut_last front c x y) ∙ (h.spelt ∙ is))

  last_cut : (front : List Entry) (c : Cut) (x y : Layout) → Ending es front (cut c x y) → CutEntry e
  last_cut front c x y h = subst CutEntry (last_parts front c x y h).1 (record { is = λ k. cell_no_cut c (sym k); piece = refl; setting = refl })

  -- neither a cell nor a cut
  pub no_ending : (CellEntry e → ⊥) → (CutEntry e → ⊥) → Begins es None
  no_ending nc nk front (cell k i) h = nc (last_cell front k i h)
  no_ending nc nk front (cut c x y) h = nk (last_cut front c x y h)

  -- a cut without a right part
  pub no_right : CutEntry e → Begins before None → Begins es None
  no_right p none front (cell k i) h = p.is (last_cell front k i h).is
  no_right p none front (cut c x y) h = none (front ++ entries x) y (record { spelt = (last_parts front c x y h).0; lettered = h.lettered.1 })

  -- a cut with a right part, and what is before that
  pub with_right : CutEntry e → (middle : ℕ) → Begins before (Some middle) → (r : Option ℕ) → Begins (take middle before) r → Begins es r
  with_right p middle (f, y, right, at) = by
    where
      left_is : take middle before ≡ f
      left_is = ap (take middle) (sym right.spelt) ∙ take_at f (entries y) middle (sym at)

      no_left : Begins (take middle before) None → Begins es None
      no_left none front (cell k i) h = p.is (last_cell front k i h).is
      no_left none front (cut c x z) h =
          let same = one_ending f (front ++ entries x) y z (right.spelt ∙ sym (last_parts front c x z h).0) in
          none front x (record { spelt = sym same.1 ∙ sym left_is; lettered = h.lettered.0 })

      by : (r : Option ℕ) → Begins (take middle before) r → Begins es r
      by None none = no_left none
      by (Some start) (front, x, h, s) =
          let c = cut_is e p in
          let q : (front ++ entries x) ++ entries y ≡ before = ap (λ t. t ++ entries y) (h.spelt ∙ left_is) ∙ right.spelt in
          (front, cut c.0 x y, record { spelt = cut_last front c.0 x y ∙ (λ i. q i ++ (c.1 i ∷ [])) ∙ sym is; lettered = (h.lettered, right.lettered) }, s)
