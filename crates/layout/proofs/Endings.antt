-- What a list of entries ends with is one layout at most, so entries determine their layout.
use Rattle.std.proofs.Common.{◌≡◌, ℕ, ◌+◌, ◌<◌, List, [], ◌∷◌, ◌++◌, length, sym, ap, ◌∙◌, arith}
use Rattle.std.proofs.lemmas.List.{append_assoc, length-append, same_from_push}
use Rattle.layout.specs.declared.entry.Cut.{Cut}
use Rattle.layout.specs.declared.entry.Kind.{Kind}
use Rattle.layout.specs.declared.entry.Kind.TheVariants as kinds
use Rattle.layout.specs.declared.entry.Entry.{Entry}
use Rattle.layout.specs.Layouts.{Layout, cell, cut}
use Rattle.layout.specs.Entries.{cell_entry, cut_entry, entries}

-- a cut's own entry is the last
pub cut_last : (front : List Entry) (c : Cut) (x y : Layout) → front ++ entries (cut c x y) ≡ ((front ++ entries x) ++ entries y) ++ (cut_entry c ∷ [])
cut_last front c x y = simp append_assoc

pub entry_count : (c : Cut) (x y : Layout) → length (entries (cut c x y)) ≡ length (entries x) + length (entries y) + 1
entry_count c x y = simp length-append (omega arith)

pub some_entry : (x : Layout) → 0 < length (entries x)
some_entry (cell k i) = omega arith
some_entry (cut c x y) = omega (arith, entry_count c x y)

-- the parts of one entry
abbrev pub kind : Entry → Kind
kind x = x.kind

abbrev pub piece : Entry → ℕ
piece x = x.piece

abbrev pub setting : Entry → ℕ
setting x = x.setting

-- no kind is a cell and a cut
pub cell_no_cut : (c : Cut) → kinds.Cell ≡ kinds.Cut c → ⊥
cell_no_cut c e = cc

pub one_ending : (front front' : List Entry) (x y : Layout) → front ++ entries x ≡ front' ++ entries y → (x ≡ y) × (front ≡ front')
one_ending front front' (cell k i) (cell j h) e =
    let p = same_from_push front front' (cell_entry k i) (cell_entry j h) e in
    let same_piece = ap piece p.1 in
    let same_setting = ap setting p.1 in
    (cc, p.0)
one_ending front front' (cell k i) (cut c y z) e = absurd (cell_no_cut c (ap kind (same_from_push front _ (cell_entry k i) (cut_entry c) (e ∙ cut_last front' c y z)).1))
one_ending front front' (cut c x w) (cell j h) e = absurd (cell_no_cut c (sym (ap kind (same_from_push _ front' (cut_entry c) (cell_entry j h) (sym (cut_last front c x w) ∙ e)).1)))
one_ending front front' (cut c x w) (cut d y z) e =
    let p = same_from_push ((front ++ entries x) ++ entries w) ((front' ++ entries y) ++ entries z) (cut_entry c) (cut_entry d) (sym (cut_last front c x w) ∙ (e ∙ cut_last front' d y z)) in
    let right = one_ending (front ++ entries x) (front' ++ entries y) w z p.0 in
    let left = one_ending front front' x y right.1 in
    let same_kind = ap kind p.1 in
    let l = left.0 in
    let r = right.0 in
    (cc, left.1)

pub one_layout : (x y : Layout) → entries x ≡ entries y → x ≡ y
one_layout x y e = (one_ending [] [] x y e).0
