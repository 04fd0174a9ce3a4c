use Rattle.std.proofs.Common.{◌+◌, not, ap, ◌∙◌, sym, subst, arith}
use Rattle.std.specs.Bool.{then_some}
use Rattle.layout.specs.Sets.{bit}
use Rattle.layout.specs.Readings.{in_cell, Collected}
use Rattle.layout.proofs.Collect.{taken}
use Rattle.layout.proofs.reading.with_entry.Goals as goal

pub returns-in-Cell : goal.returns-in-Cell
returns-in-Cell c =
    subst (Collected (λ k. bit k c.args.set + in_cell k c.args.entry.kind c.args.entry.piece))
    (sym (c.then_some.ensures ∙ ap (then_some (not c.holds.result)) c.with_piece.ensures))
    (taken c.args.set c.args.entry.piece c.args.entry.kind c.in-Cell.is (omega arith) c.holds.result c.holds.ensures)
