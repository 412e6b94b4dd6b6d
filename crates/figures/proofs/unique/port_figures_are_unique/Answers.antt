use Rattle.figures.proofs.unique.port_figures_are_unique.Goals as goal
use Rattle.figures.proofs.Uniqueness.{ports_unique}

pub returns : goal.returns
returns c = ports_unique
