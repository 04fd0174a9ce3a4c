use Rattle.std.proofs.Common.{length, arith}
use Rattle.scroll.proofs.Sums.{replied_told, replied_refused}
use Rattle.scroll.proofs.replying.reply.Goals as goal

pub returns-in-Ok-clause-replied : goal.returns-in-Ok-clause-replied
returns-in-Ok-clause-replied c = replied_told c.args.file.now (length c.args.scratch.now) _ _ c.args.line.now _ c.in-Ok.end c.in-Ok.ensures.summed

pub returns-in-Err-clause-replied : goal.returns-in-Err-clause-replied
returns-in-Err-clause-replied c =
    replied_refused c.args.file.now (length c.args.scratch.now) _ _ c.args.line.now c.summarize.new.line _ c.in-Err.fault c.refusal_line.result c.unwrap.result
    (omega arith) c.in-Err.ensures.summed c.refusal_line.ensures c.unwrap.ensures
