use Rattle.std.proofs.Common.{sym, refl, subst, arith}
use Rattle.layout.specs.Readings.{Begins}
use Rattle.layout.proofs.Read.{none_ends, cell_begins, no_ending, no_right, with_right}
use Rattle.layout.proofs.reading.+last_layout.Goals as goal

pub returns-in_err-last : goal.returns-in_err-last
returns-in_err-last t c = subst (Begins c.args.entries.now) (sym c.from_residual.ensures) (none_ends c.args.entries.now c.in_err-last.ensures.cases)

pub returns-then-is_cell : goal.returns-then-is_cell
returns-then-is_cell t c =
    cell_begins c.args.entries.now c.in_ok-last.before.now _ c.in_ok-last.ensures.cases.0 (c.if-is_cell.ensures.0 refl)

pub returns-then-not-is_cut : goal.returns-then-not-is_cut
returns-then-not-is_cut t c =
    no_ending c.args.entries.now c.in_ok-last.before.now _ c.in_ok-last.ensures.cases.0 (λ p. let q = c.if-is_cell.ensures.1 p in grind arith) (λ p. let q = c.if-not-is_cut.ensures.1 p in grind arith)

pub returns-in_err-middle : goal.returns-in_err-middle
returns-in_err-middle t c =
    subst (Begins c.args.entries.now) (sym c.from_residual-in_err-middle.ensures)
    (no_right c.args.entries.now c.in_ok-last.before.now _ c.in_ok-last.ensures.cases.0 (c.if-not-is_cut.ensures.0 refl) c.in_err-middle.ensures)

pub returns : goal.returns
returns t c =
    with_right c.args.entries.now c.in_ok-last.before.now _ c.in_ok-last.ensures.cases.0 (c.if-not-is_cut.ensures.0 refl) c.in_ok-middle.middle c.in_ok-middle.ensures c.last_layout-2.result c.last_layout-2.ensures
