use Rattle.page.proofs.Obeyed.{lift_keeps}
use Rattle.page.proofs.laws.lift_keeps.Goals as goal

pub returns : goal.returns
returns g c = lift_keeps _
