use Rattle.std.proofs.Common.{◌≡◌, rules, arith}
use Rattle.figures.specs.Racks.{line_at, propagation_of}
use Rattle.figures.specs.RackLimits.{line_timed}
use Rattle.figures.proofs.racks.Rack.sending.Goals as goal

pub overflow_add-result : goal.overflow_add-result
overflow_add-result c =
    let value : c.map_or-propagation.result ≡ propagation_of (line_at c.args.self.now c.args.number) = search rules in
    omega (arith, (line_timed c.args.self.now c.requires c.args.number).propagation_high)

pub returns-clause-small : goal.returns-clause-small
returns-clause-small c =
    let value : c.map_or-propagation.result ≡ propagation_of (line_at c.args.self.now c.args.number) = search rules in
    omega (arith, (line_timed c.args.self.now c.requires c.args.number).propagation_high)
