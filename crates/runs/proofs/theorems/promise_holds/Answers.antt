use Rattle.runs.proofs.theorems.promise_holds.Goals as goal
use Rattle.runs.proofs.Promise.{promise}

pub returns : goal.returns
returns g c = promise _
