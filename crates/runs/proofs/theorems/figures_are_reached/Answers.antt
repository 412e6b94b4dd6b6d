use Rattle.runs.proofs.theorems.figures_are_reached.Goals as goal
use Rattle.runs.proofs.Example.{reached}

pub returns : goal.returns
returns c = reached
