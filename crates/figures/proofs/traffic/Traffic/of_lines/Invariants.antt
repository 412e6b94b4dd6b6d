use Rattle.std.proofs.Common.{◌≡◌, ◌+◌, ◌*◌, ◌≤◌, min, drop}
use Rattle.arrivals.specs.Limits.{longest}
use Rattle.figures.specs.Sums.{lines_load}
use Rattle.figures.proofs.traffic.Traffic.of_lines.Given as goal

abbrev pub invariant-loop-line : goal.invariant-loop-line
invariant-loop-line g l =
    let α = g.K.Arrival.alpha in
    (l.sum ≤ 2000000 * l.line-index)
    × (l.sum + lines_load α l.self.late l.self.rack.now l.self.streams.now l.outbound (min l.window longest) (drop l.line-index l.inbound)
    ≡ lines_load α l.self.late l.self.rack.now l.self.streams.now l.outbound (min l.window longest) l.inbound)
