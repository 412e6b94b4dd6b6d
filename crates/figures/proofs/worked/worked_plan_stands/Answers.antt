use Rattle.figures.proofs.worked.worked_plan_stands.Goals as goal
use Rattle.figures.proofs.WorkedPlan.{worked_plan}

pub returns : goal.returns
returns c = worked_plan
