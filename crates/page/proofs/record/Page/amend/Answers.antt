use Rattle.std.proofs.Common.{arith, rules}
use Rattle.page.specs.Pieces.{data_of}
use Rattle.page.proofs.Placed.{amend_done}
use Rattle.page.proofs.Obeyed.{amend_runs}
use Rattle.page.proofs.record.Page.amend.Goals as goal

pub returns : goal.returns
returns g c =
    let p = amend_done c.args.self.now (data_of c.fall-fallen.new.self)
    c.fall-fallen.ensures.leaves c.fall-fallen.ensures.answer c.all_rows.ensures
    c.if-piece-self.false (omega arith) c.in_ok-count.ensures.laid in
    record { call = p; run = amend_runs p; same = search rules }
