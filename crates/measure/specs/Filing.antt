-- What a filed measure adds: amounts made from filed pairs, and amounts written in decimal.
use Rattle.std.specs.Prelude.{ℕ, List, ◌++◌, codes, decimal}
use Rattle.fault.specs.Written.{labelled}
use Rattle.measure.specs.declared.simple.MarkedDepth.{MarkedDepth}

-- the amount of a filed pair (marks, depth), and the text of an amount
pub record Filing (A : Type 0) : Type 0 where
  pub amount : ℕ → ℕ → A
  pub text : A → List ℕ

-- marks are ignored; the depth is written
abbrev pub depth_filing : Filing ℕ
depth_filing = record { amount = λ marks depth. depth; text = decimal }

-- marks, `+`, depth
abbrev pub marked_filing : Filing MarkedDepth
marked_filing = record {
  amount = λ marks depth. record { marks = marks; depth = depth };
  text = λ a. decimal a.marks ++ labelled (codes "+") a.depth;
}
