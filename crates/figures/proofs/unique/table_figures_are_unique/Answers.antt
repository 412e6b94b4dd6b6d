use Rattle.figures.proofs.unique.table_figures_are_unique.Goals as goal
use Rattle.figures.proofs.Uniqueness.{tables_unique}

pub returns : goal.returns
returns g c = tables_unique _
