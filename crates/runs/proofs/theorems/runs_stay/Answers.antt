use Rattle.runs.proofs.theorems.runs_stay.Goals as goal
use Rattle.runs.proofs.Withdrawn.{runs_stay}

pub returns : goal.returns
returns g c = runs_stay _
