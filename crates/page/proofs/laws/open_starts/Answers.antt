use Rattle.page.proofs.Obeyed.{open_starts}
use Rattle.page.proofs.laws.open_starts.Goals as goal

pub returns : goal.returns
returns g c = open_starts _
