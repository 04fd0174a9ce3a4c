-- Examples of layouts, their entries and their lines, computed by the checker.
use Rattle.std.specs.Prelude.{◌≡◌, ℕ, ◌<◌, [], ◌∷◌, Some, None, codes, refl}
use Rattle.std.proofs.Common.{below_none, below_more}
use Rattle.std.specs.Fmt.{digits}
use Rattle.measure.specs.Settings.{Setting}
use Rattle.measure.specs.Products.{depth, ceiling}
use Rattle.measure.specs.Filing.{depth_filing}
use Rattle.layout.specs.declared.entry.Cut.TheVariants.{Above, Beside}
use Rattle.layout.specs.Layouts.{Layout, cell, cut, Pieces, width, amount, cells, LayoutOf}
use Rattle.layout.specs.Entries.{cell_entry, cut_entry, entries}
use Rattle.layout.specs.Texts.{layout_text, none_text}

abbrev of : ℕ → ℕ → Setting ℕ
of w d = record { width = w; amount = d }

-- a and b have 2 lines at width 1 and 1 line at width 2; c has 3, 2 and 1 lines at widths 1, 2 and 3
abbrev sample : Pieces ℕ
sample = (of 1 2 ∷ (of 2 1 ∷ [])) ∷ ((of 1 2 ∷ (of 2 1 ∷ [])) ∷ ((of 1 3 ∷ (of 2 2 ∷ (of 3 1 ∷ []))) ∷ []))

-- a in its narrow setting beside b above c, both in their widest: widths 1 and 3, depths 2 and 1 + 1
abbrev wide : Layout
wide = cut Beside (cell 0 0) (cut Above (cell 1 1) (cell 2 2))

wide_width : width sample wide ≡ 4
wide_width = refl

wide_depth : amount depth sample wide ≡ Some 2
wide_depth = refl

-- the piece is in one cell
abbrev Once : ℕ → Type 0
Once k = cells k wide ≡ 1

once : (k : ℕ) → k < 3 → cells k wide ≡ 1
once = below_more Once 2 (below_more Once 1 (below_more Once 0 (below_none Once) refl) refl) refl

of_all_three : LayoutOf sample wide
of_all_three = record { once = once; real = ((of 1 2, refl), ((of 2 1, refl), (of 3 1, refl))) }

-- one column: 2 + 2 + 3 lines, which a ceiling of 6 lines forbids
abbrev narrow : Layout
narrow = cut Above (cell 0 0) (cut Above (cell 1 0) (cell 2 0))

narrow_width : width sample narrow ≡ 1
narrow_width = refl

narrow_depth : amount depth sample narrow ≡ Some 7
narrow_depth = refl

under_ceiling : amount (ceiling depth 6) sample narrow ≡ None
under_ceiling = refl

-- no fourth setting, no fourth piece
no_such_setting : amount depth sample (cell 2 3) ≡ None
no_such_setting = refl

no_such_piece : amount depth sample (cell 3 0) ≡ None
no_such_piece = refl

-- left, right, cut
wide_entries : entries wide ≡ cell_entry 0 0 ∷ (cell_entry 1 1 ∷ (cell_entry 2 2 ∷ (cut_entry Above ∷ (cut_entry Beside ∷ []))))
wide_entries = refl

wide_line : layout_text depth_filing 4 2 wide ≡ codes "4 2 (a0[b1c2])"
unfolding digits
wide_line = refl

none_line : none_text 24 ≡ codes "24 none"
unfolding digits
none_line = refl
