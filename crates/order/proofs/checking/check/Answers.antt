use Rattle.order.proofs.Settles.{settles}
use Rattle.order.proofs.checking.check.Goals as goal

pub returns : goal.returns
returns c = settles c.args.file.now c.type_inv.file c.order.result c.order.ensures
