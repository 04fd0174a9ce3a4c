use Rattle.std.proofs.Common.{length, Err, ap, ◌∙◌}
use Rattle.std.proofs.lemmas.Result.{err_from_is_err_and}
use Rattle.fault.proofs.Filled.{room_there, room_short}
use Rattle.page.specs.Tables.{held_in}
use Rattle.order.proofs.Filed.{fill_refused, fill_short, fill_put}
use Rattle.order.proofs.filling.fill.Goals as goal

pub returns-in_err-figures-clause-filled : goal.returns-in_err-figures-clause-filled
returns-in_err-figures-clause-filled g c =
    let q = err_from_is_err_and c.from_residual.result c.from_residual.ensures.1 in
    fill_refused c.args.file.now c.check.result c.check.ensures (g.M.Measure.functions c.args.m.now) (g.M.Filed.filing c.args.m.now) (length c.args.scratch.now) (held_in c.args.page.now c.args.tables.now)
    _ c.from_residual.result c.in_err-figures.was (q.1 ∙ ap Err q.2)

pub returns-in_err-want_room-clause-filled : goal.returns-in_err-want_room-clause-filled
returns-in_err-want_room-clause-filled g c =
    let x = c.from_residual-in_err-want_room in
    let q = err_from_is_err_and x.result x.ensures.1 in
    let s = room_short _ 0 8 _ _ c.want_room.ensures c.in_err-want_room.was in
    fill_short c.args.file.now c.check.result c.check.ensures (g.M.Measure.functions c.args.m.now) (g.M.Filed.filing c.args.m.now) (length c.args.scratch.now) (held_in c.args.page.now c.args.tables.now)
    c.in_ok-figures.figures x.result c.in_ok-figures.was s.0 (q.1 ∙ ap Err (q.2 ∙ s.1))

pub returns-clause-filled : goal.returns-clause-filled
returns-clause-filled g c =
    fill_put c.args.file.now c.check.result c.check.ensures (g.M.Measure.functions c.args.m.now) (g.M.Filed.filing c.args.m.now) (length c.args.scratch.now) (held_in c.args.page.now c.args.tables.now)
    c.in_ok-figures.figures _ _ c.in_ok-figures.was (room_there _ 0 8 _ c.want_room.ensures c.in_ok-want_room.was) c.put_pieces.ensures.all
