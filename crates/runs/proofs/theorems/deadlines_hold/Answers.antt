use Rattle.runs.proofs.theorems.deadlines_hold.Goals as goal
use Rattle.runs.proofs.Promise.{promise_kept}

pub returns : goal.returns
returns g c = promise_kept _
