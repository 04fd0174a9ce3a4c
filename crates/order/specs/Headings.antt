-- The line that says what stands on a page.
use Rattle.std.specs.Prelude.{ℕ, List, ◌++◌, codes}
use Rattle.fault.specs.Written.{labelled}

-- `pieces N breadth B`
abbrev pub heading : ℕ → ℕ → List ℕ
heading pieces breadth = labelled (codes "pieces ") pieces ++ labelled (codes " breadth ") breadth
