use Rattle.records.proofs.Moves.{rotated_in}
use Rattle.records.proofs.lent.LentTable.insert.Goals as goal

pub returns-clause-memory : goal.returns-clause-memory
returns-clause-memory g c =
    let t = c.args.self.now in
    rotated_in t.memory.now t.len c.args.at c.args.stream _ c.requires.0 c.requires.1 c.rotate_right.ensures.after
