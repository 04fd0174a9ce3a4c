-- The pieces of cells, collected in a set.
use Rattle.std.proofs.Common.{◌≡◌, ℕ, ◌+◌, ◌^◌, ◌<◌, ◌≤◌, Bool, true, false, not, cond, eqb, ◌⊎◌, List, [], ◌++◌, length, is_some, Some, None, Decides, Option, sym, refl, ap, ◌∙◌, inl, inr, arith}
use Rattle.std.specs.Bool.{then_some}
use Rattle.std.proofs.lemmas.List.{nil_from_length}
use Rattle.std.proofs.lemmas.Nat.Bits.{bit_at_above}
use Rattle.std.proofs.lemmas.Bool.{eqb-true, eqb-false, eq-eqb, ne_eqb, lt-ltb, cases_lt}
use Rattle.std.proofs.lemmas.Bool.Decides.{nat_tests}
use Rattle.layout.specs.declared.entry.Kind.{Kind}
use Rattle.layout.specs.declared.entry.Kind.TheVariants.{Cell}
use Rattle.layout.specs.declared.entry.Entry.{Entry}
use Rattle.layout.specs.Layouts.{Layout, cells}
use Rattle.layout.specs.Entries.{entries}
use Rattle.layout.specs.Sets.{bit, with_piece}
use Rattle.layout.specs.Texts.{Spells}
use Rattle.layout.specs.Readings.{Ending, Begins, in_cell, cell_count, Collected}
use Rattle.layout.proofs.Bit.{bit_small, bit_with}
use Rattle.layout.proofs.Endings.{one_ending}
use Rattle.layout.proofs.Cells.{count_entries, no_high}

module _ (set piece : ℕ) (kind : Kind) (is : kind ≡ Cell) where
  here : (k : ℕ) → in_cell k kind piece ≡ cond (eqb k piece) 1 0
  here k = ap (λ v. in_cell k v piece) is

  -- a piece that is there already is counted twice
  pub again : set < 2 ^ 16 → eqb (bit piece set) 1 ≡ true → Collected (λ k. bit k set + in_cell k kind piece) None
  again small there = (piece, within, two)
    where
      one : bit piece set ≡ 1
      one = eqb-true _ _ there

      within : piece < 16
      within = elim (cases_lt piece 16) [ inl lt ↦ lt | inr high ↦ absurd (omega (arith, bit_at_above set 16 piece small high, one)) ]

      two : 2 ≤ bit piece set + in_cell piece kind piece
      two = let e : in_cell piece kind piece ≡ 1 = here piece ∙ rw (eq-eqb piece piece refl) in omega (arith, one)

  -- a new one is added
  pub added : eqb (bit piece set) 1 ≡ false → Collected (λ k. bit k set + in_cell k kind piece) (Some (with_piece piece set))
  added new k b = by (cases_lt piece 16)
    where
      none : bit piece set ≡ 0
      none = omega (arith, bit_small piece set, eqb-false _ _ new)

      by : (piece < 16) ⊎ (16 ≤ piece) → bit k (with_piece piece set) ≡ bit k set + in_cell k kind piece
      by (inl low) =
          let w : with_piece piece set ≡ set + 2 ^ piece = simp (lt-ltb piece 16 low, eq-eqb (bit piece set) 0 none) in
          ap (bit k) w ∙ bit_with k piece set none ∙ ap (λ n. bit k set + n) (sym (here k))
      by (inr high) =
          let w : with_piece piece set ≡ set = grind (arith, nat_tests) in
          let n : in_cell k kind piece ≡ 0 = here k ∙ rw (ne_eqb k piece (λ e. omega arith)) in
          ap (bit k) w ∙ omega arith

  -- it is taken exactly if it is not there
  pub taken : set < 2 ^ 16 → (there : Bool) → there ≡ eqb (bit piece set) 1 → Collected (λ k. bit k set + in_cell k kind piece) (then_some (not there) (with_piece piece set))
  taken small true e = again small (sym e)
  taken small false e = added (sym e)

-- a layout that begins at the first entry, with no piece twice
spells : (es : List Entry) (set : ℕ) → Begins es (Some 0) → Collected (λ k. cell_count k es) (Some set) → (x : Layout) × Spells es x
spells es set (front, x, h, at) pieces = (x, record { spelt = whole; tellable = record { lettered = h.lettered; different = once } })
  where
    whole : entries x ≡ es
    whole = ap (λ f. f ++ entries x) (sym (nil_from_length front (omega arith))) ∙ h.spelt

    once : (k : ℕ) → cells k x ≤ 1
    once k =
        elim (cases_lt k 16)
        [ inl low ↦ omega (arith, pieces k low, bit_small k set, count_entries k x, ap (cell_count k) whole) | inr high ↦ omega (arith, no_high k x (omega arith) h.lettered) ]

-- entries of a layout begin it at their first
pub spelt_at : (es : List Entry) (x : Layout) → Spells es x → Ending es [] x
spelt_at es x s = record { spelt = s.spelt; lettered = s.tellable.lettered }

pub starts_first : (es : List Entry) (x : Layout) (o : Option ℕ) → Spells es x → Begins es o → o ≡ Some 0
starts_first es x None s none = absurd (none [] x (spelt_at es x s))
starts_first es x (Some start) s (front, y, h, at) = ap Some (at ∙ ap length (one_ending front [] y x (h.spelt ∙ sym s.spelt)).1)

-- and have no piece twice
none_twice : (es : List Entry) (x : Layout) → Spells es x → Collected (λ k. cell_count k es) None → ⊥
none_twice es x s (k, low, two) = omega (arith, ap (cell_count k) s.spelt, count_entries k x, s.tellable.different k)

-- so they are a layout's exactly if the set was made
pub found : (es : List Entry) (o : Option ℕ) → Begins es (Some 0) → Collected (λ k. cell_count k es) o → Decides (is_some o) ((x : Layout) × Spells es x)
found es (Some set) b c = (λ _. spells es set b c, λ _. refl)
found es None b c = (λ e. absurd (grind arith), λ s. absurd (none_twice es s.0 s.1 c))
