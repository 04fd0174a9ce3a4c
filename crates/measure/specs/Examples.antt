-- Examples of amounts, computed by the checker.
use Rattle.std.specs.Prelude.{◌≡◌, ℕ, true, Some, None, codes, refl}
use Rattle.std.specs.Fmt.{digits}
use Rattle.measure.specs.declared.simple.MarkedDepth.{MarkedDepth}
use Rattle.measure.specs.Measures.{better}
use Rattle.measure.specs.Products.{depth, marked, gutter, ceiling}
use Rattle.measure.specs.Filing.{marked_filing}

abbrev of : ℕ → ℕ → MarkedDepth
of m d = record { marks = m; depth = d }

-- lines: limits of a cell, the larger beside, the sum above, which stops
deepest_cell : depth.cell 2000 ≡ Some 2000
deepest_cell = refl

too_deep : depth.cell 2001 ≡ None
too_deep = refl

no_depth : depth.cell 0 ≡ None
no_depth = refl

stops : depth.above 65000 600 ≡ Some 65535
stops = refl

-- one line above another with a gap of 3
spaced : (gutter depth 3).above 1 1 ≡ Some 5
spaced = refl

-- 7 lines under a ceiling of 6, and of 7
over : (ceiling depth 6).above 4 3 ≡ None
over = refl

under : (ceiling depth 7).above 4 3 ≡ Some 7
under = refl

-- both layers, in either order: 2 lines, a gap of 3 and 2 lines under a ceiling of 7, and of 6
ceiling_on_top : (ceiling (gutter depth 3) 7).above 2 2 ≡ Some 7
ceiling_on_top = refl

gutter_on_top : (gutter (ceiling depth 7) 3).above 2 2 ≡ Some 7
gutter_on_top = refl

both_over : (gutter (ceiling depth 6) 3).above 2 2 ≡ (ceiling (gutter depth 3) 6).above 2 2
both_over = refl

-- fewer marks first, and marks up to 9,999
fewer_marks : better marked (of 0 9) (of 1 1) ≡ true
fewer_marks = refl

most_marks : marked.beside (of 9000 4) (of 999 5) ≡ Some (of 9999 5)
most_marks = refl

too_many_marks : marked.beside (of 9000 4) (of 1000 5) ≡ None
too_many_marks = refl

written : marked_filing.text (of 2 6) ≡ codes "2+6"
unfolding digits
written = refl
