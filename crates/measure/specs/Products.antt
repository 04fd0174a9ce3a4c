-- The measures that the library brings: lines, marks before lines, and two layers over any measure.
use Rattle.std.specs.Prelude.{ℕ, ◌+◌, min, max, Bool, cond, ◌&&◌, ◌||◌, Some, None, Option, ◌==◌, nat_le, nat_lt}
use Rattle.measure.specs.Measures.{Functions}
use Rattle.measure.specs.declared.simple.MarkedDepth.{MarkedDepth}

-- the larger of two depths, and their sum, which stops at 65,535
abbrev pub deeper : ℕ → ℕ → ℕ
deeper a b = max a b

abbrev pub stacked : ℕ → ℕ → ℕ
stacked a b = min (a + b) 65535

-- a depth that a cell may have
abbrev pub cell_depth : ℕ → Bool
cell_depth d = nat_le 1 d && nat_le d 2000

abbrev pub depth : Functions ℕ
depth = record {
  no_worse = nat_le;
  cell = λ a. cond (cell_depth a) (Some a) None;
  beside = λ a b. Some (deeper a b);
  above = λ a b. Some (stacked a b);
}

-- fewer marks first; at equal marks, less depth
abbrev pub marks_first : MarkedDepth → MarkedDepth → Bool
marks_first a b = nat_lt a.marks b.marks || (a.marks == b.marks && nat_le a.depth b.depth)

-- the marks of both parts with the depth of the whole; nothing where the marks are over 9,999
abbrev pub with_marks : MarkedDepth → MarkedDepth → ℕ → Option MarkedDepth
with_marks a b d = cond (nat_le (a.marks + b.marks) 9999) (Some (record { marks = a.marks + b.marks; depth = d })) None

abbrev pub marked : Functions MarkedDepth
marked = record {
  no_worse = marks_first;
  cell = λ a. cond (nat_le a.marks 1000 && cell_depth a.depth) (Some a) None;
  beside = λ a b. with_marks a b (deeper a.depth b.depth);
  above = λ a b. with_marks a b (stacked a.depth b.depth);
}

-- a second step where the first gave something
abbrev pub then : {A : Type 0} → Option A → (A → Option A) → Option A
then (Some a) f = f a
then None f = None

-- `gap` stands between two parts that are above each other
abbrev pub gutter : {A : Type 0} → Functions A → A → Functions A
gutter m gap = record {
  no_worse = m.no_worse;
  cell = m.cell;
  beside = m.beside;
  above = λ a b. then (m.above a gap) (λ spaced. m.above spaced b);
}

-- what was given, where it is no worse than the limit
abbrev pub kept : {A : Type 0} → Functions A → A → Option A → Option A
kept m limit None = None
kept m limit (Some a) = cond (m.no_worse a limit) (Some a) None

abbrev pub ceiling : {A : Type 0} → Functions A → A → Functions A
ceiling m limit = record {
  no_worse = m.no_worse;
  cell = λ a. kept m limit (m.cell a);
  beside = λ a b. kept m limit (m.beside a b);
  above = λ a b. kept m limit (m.above a b);
}
