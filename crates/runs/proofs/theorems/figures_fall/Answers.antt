use Rattle.runs.proofs.theorems.figures_fall.Goals as goal
use Rattle.runs.proofs.Withdrawn.{figures_fall}

pub returns : goal.returns
returns g c = figures_fall _
