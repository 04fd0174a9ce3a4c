use Rattle.std.proofs.Common.{arith, rules}
use Rattle.page.proofs.Placed.{put_done}
use Rattle.page.proofs.Obeyed.{put_runs}
use Rattle.page.proofs.record.Page.put.Goals as goal

pub returns : goal.returns
returns g c =
    let p = put_done c.args.self.now c.if-self-ge-MOST_PIECES.false (omega arith) c.in_ok-count.ensures.laid in
    record { call = p; run = put_runs p; same = search rules }
