use Rattle.layout.proofs.Endings.{one_layout}
use Rattle.layout.proofs.layouts.one_layout.Goals as goal

pub returns : goal.returns
returns c = one_layout
