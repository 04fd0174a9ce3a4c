use Rattle.page.proofs.Obeyed.{pages_obey}
use Rattle.page.proofs.laws.pages_obey.Goals as goal

pub returns : goal.returns
returns g c = pages_obey _
