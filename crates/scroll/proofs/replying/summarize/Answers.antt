use Rattle.std.proofs.Common.{length, Err, ap, ◌∙◌}
use Rattle.std.proofs.lemmas.Result.{err_from_is_err_and}
use Rattle.page.specs.Pieces.{data_of}
use Rattle.page.specs.Tables.{held_in}
use Rattle.page.specs.Puts.{opened}
use Rattle.scroll.proofs.Sums.{summed_refused, summed_stopped, summed_told}
use Rattle.scroll.proofs.replying.summarize.Goals as goal

pub returns-in_err-figures-clause-summed : goal.returns-in_err-figures-clause-summed
returns-in_err-figures-clause-summed c =
    let q = err_from_is_err_and c.from_residual.result c.from_residual.ensures.1 in
    summed_refused c.args.file.now c.check.result c.check.ensures (length c.args.scratch.now) (held_in c.args.page.now c.args.tables.now) c.args.line.now
    _ c.from_residual.result c.in_err-figures.was (q.1 ∙ ap Err q.2)

pub returns-in_err-fill-clause-summed : goal.returns-in_err-fill-clause-summed
returns-in_err-fill-clause-summed c =
    let q = err_from_is_err_and c.from_residual-in_err-fill.result c.from_residual-in_err-fill.ensures.1 in
    summed_stopped c.args.file.now c.check.result c.check.ensures (length c.args.scratch.now) (held_in c.args.page.now c.args.tables.now) c.args.line.now
    c.in_ok-figures.figures c.in_ok-figures.was c.lines_with_gutter-m.result.gap c.lines_with_gutter-m.ensures
    (data_of c.open.new.self) (c.open.ensures.leaves ∙ ap (λ r. opened r c.in_ok-figures.figures.breadth (data_of c.args.page.now)) c.in_ok-open.was)
    _ c.fill.result c.fill.ensures.filled _ _ c.in_err-fill.was (q.1 ∙ ap Err q.2)

pub returns-clause-summed : goal.returns-clause-summed
returns-clause-summed c =
    summed_told c.args.file.now c.check.result c.check.ensures (length c.args.scratch.now) (held_in c.args.page.now c.args.tables.now) c.args.line.now
    c.in_ok-figures.figures c.in_ok-figures.was c.lines_with_gutter-m.result.gap c.lines_with_gutter-m.ensures
    (data_of c.open.new.self) (c.open.ensures.leaves ∙ ap (λ r. opened r c.in_ok-figures.figures.breadth (data_of c.args.page.now)) c.in_ok-open.was)
    (held_in c.fill.new.page c.fill.new.tables) c.fill.result c.fill.ensures.filled _ _ _ c.in_ok-fill.was c.heading_line.ensures
