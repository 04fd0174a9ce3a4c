use Rattle.order.proofs.Settles.{one_reading}
use Rattle.order.proofs.checking.one_reading.Goals as goal

pub returns : goal.returns
returns c = one_reading
