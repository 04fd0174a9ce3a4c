-- Why marks rank before depth, and why too many marks give nothing: the other choices break the second law.
use Rattle.std.specs.Prelude.{◌≡◌, ℕ, ◌+◌, ◌≤◌, min, true, ◌&&◌, ◌||◌, Some, Option, ◌==◌, nat_le, nat_lt}
use Rattle.measure.specs.Measures.{Functions, NoWorse}
use Rattle.measure.specs.Products.{deeper, stacked, marked}
use Rattle.measure.specs.declared.simple.MarkedDepth.{MarkedDepth}

-- both numbers of an amount are in range
abbrev pub Ranged : MarkedDepth → Type 0
Ranged a = (a.marks ≤ 65535) × (a.depth ≤ 65535)

-- amounts in range at which a beside cut of parts that are no worse gives nothing, or something worse
pub record Breaks (m : Functions MarkedDepth) : Type 0 where
  pub a : MarkedDepth
  pub a' : MarkedDepth
  pub b : MarkedDepth
  pub b' : MarkedDepth
  pub ranged : Ranged a × Ranged a' × Ranged b × Ranged b'
  pub left : m.no_worse a a' ≡ true
  pub right : m.no_worse b b' ≡ true
  pub broken : NoWorse m.no_worse (m.beside a b) (m.beside a' b') → ⊥

-- as `marked`, but less depth first, and at equal depth fewer marks
abbrev pub depth_first : Functions MarkedDepth
depth_first = record {
  no_worse = λ a b. nat_lt a.depth b.depth || (a.depth == b.depth && nat_le a.marks b.marks);
  cell = marked.cell;
  beside = marked.beside;
  above = marked.above;
}

-- as `marked`, but marks stop at 9,999
abbrev pub stopped_marks : MarkedDepth → MarkedDepth → ℕ → Option MarkedDepth
stopped_marks a b d = Some (record { marks = min (a.marks + b.marks) 9999; depth = d })

abbrev pub stopping : Functions MarkedDepth
stopping = record {
  no_worse = marked.no_worse;
  cell = marked.cell;
  beside = λ a b. stopped_marks a b (deeper a.depth b.depth);
  above = λ a b. stopped_marks a b (stacked a.depth b.depth);
}

abbrev pub DepthFirstBreaks : Type 0
DepthFirstBreaks = Breaks depth_first

abbrev pub StoppingBreaks : Type 0
StoppingBreaks = Breaks stopping
