use Rattle.std.proofs.Common.{refl}
use Rattle.order.specs.Format.{order_format, run}
use Rattle.order.proofs.Settles.{settles}
use Rattle.order.proofs.checking.one_outcome.Goals as goal

pub returns : goal.returns
returns c file small = (run order_format file 0, settles file (λ i. record { fits = small i }) (run order_format file 0) refl)
