use Rattle.wire.proofs.Joins.{walk_joins}
use Rattle.wire.proofs.walkers.walks_join.Goals as goal

pub returns : goal.returns
returns c = walk_joins
