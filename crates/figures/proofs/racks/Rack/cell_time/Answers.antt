use Rattle.std.proofs.Common.{◌≡◌, rules, arith}
use Rattle.figures.specs.Racks.{cell_time}
use Rattle.figures.specs.RackLimits.{line_timed}
use Rattle.figures.proofs.racks.Rack.cell_time.Goals as goal

pub returns-clause-limits : goal.returns-clause-limits
returns-clause-limits c =
    let value : c.map_or.result ≡ cell_time c.args.self.now c.args.number = search rules in
    let timed = line_timed c.args.self.now c.requires c.args.number in
    (omega (arith, timed.cell_low), omega (arith, timed.cell_high))
