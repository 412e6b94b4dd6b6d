use Rattle.std.proofs.Common.{◌≤◌, sym, subst}
use Rattle.figures.specs.Racks.{cell_time_of}
use Rattle.figures.specs.RackLimits.{line_timed}
use Rattle.figures.proofs.traffic.Traffic.of_line.Goals as goal

pub nonzero_div-carried : goal.nonzero_div-carried
nonzero_div-carried g c =
    subst (λ o. 1 ≤ cell_time_of o) (sym c.in-Some.ensures) (line_timed c.args.self.now.rack.now c.args.self.now.kept c.args.inbound).cell_low
