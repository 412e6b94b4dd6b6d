use Rattle.runs.proofs.theorems.withdrawal_passes.Goals as goal
use Rattle.runs.proofs.Withdrawn.{withdrawal}

pub returns : goal.returns
returns g c = withdrawal _
