-- Entries compared pair by pair.
use Rattle.std.proofs.Common.{◌≡◌, ℕ, ◌<◌, Bool, true, false, List, length, get_or, MatchBool, Decides, Some, refl, subst, arith}
use Rattle.std.specs.List.{zip, AllWithin, HoldsAt, slice_get}
use Rattle.std.proofs.lemmas.Option.{slice_get-get_or, slice_get_within, get_or_from_slice_get}
use Rattle.std.proofs.lemmas.Slice.Zip.{length-zip, get_or-zip}
use Rattle.layout.specs.declared.entry.Entry.{Entry}
use Rattle.layout.specs.Entries.{cell_entry, Agree, Alike}

-- two entries that agree, and two that do not
abbrev pub Same : Entry × Entry → Type 0
Same p = Agree p.0 p.1

abbrev pub Differ : Entry × Entry → Type 0
Differ p = Agree p.0 p.1 → ⊥

-- of two lists of one length, either all pairs agree or one does not
pub alike_from_pairs : (xs ys : List Entry) (r : Bool) → length xs ≡ length ys → MatchBool r (AllWithin Same (zip xs ys) 0 (length (zip xs ys))) ((k : ℕ) × (k < length (zip xs ys)) × HoldsAt Differ (zip xs ys) k) → Decides r (Alike xs ys)
alike_from_pairs xs ys true same all = (λ _. record { one_length = same; agree = agree }, λ _. refl)
  where
    agree : (i : ℕ) (x y : Entry) → slice_get xs i ≡ Some x → slice_get ys i ≡ Some y → Agree x y
    agree i x y e f =
        let left = get_or_from_slice_get xs i x x e in
        let right = get_or_from_slice_get ys i y y f in
        let pair = get_or-zip xs ys i (x, y) (slice_get_within xs i x e) (slice_get_within ys i y f) in
        let both : Same (get_or (zip xs ys) i (x, y)) = all i (x, y) (omega arith) (omega (arith, length-zip xs ys, slice_get_within xs i x e)) in
        let here : Same (get_or xs i x, get_or ys i y) = subst Same pair both in
        (cc, cc)
alike_from_pairs xs ys false same (k, within, differ) = (λ e. absurd (grind arith), λ a. none a)
  where
    none : Alike xs ys → false ≡ true
    none a =
        let d = cell_entry 0 0 in
        let inside : k < length xs = omega (arith, length-zip xs ys) in
        let pair = get_or-zip xs ys k (d, d) inside (omega arith) in
        absurd (subst Differ pair (differ (d, d)) (a.agree k _ _ (slice_get-get_or xs k d inside) (slice_get-get_or ys k d (omega arith))))
