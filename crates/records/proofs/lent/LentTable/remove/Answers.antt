use Rattle.records.proofs.Moves.{first_last}
use Rattle.records.proofs.lent.LentTable.remove.Goals as goal

pub returns-clause-memory : goal.returns-clause-memory
returns-clause-memory g c d =
    let t = c.args.self.now in
    first_last t.memory.now t.len c.args.at d _ c.requires t.inside c.rotate_left.ensures.after
