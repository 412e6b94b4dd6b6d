use Rattle.std.proofs.Common.{◌≡◌, ◌+◌, ◌*◌, ◌≤◌, min, drop}
use Rattle.arrivals.specs.Limits.{longest, most}
use Rattle.figures.specs.Sums.{group_from, group_load}
use Rattle.figures.proofs.traffic.Traffic.of_group.Given as goal

abbrev pub invariant-loop-place : goal.invariant-loop-place
invariant-loop-place g l =
    let α = g.K.Arrival.alpha in
    (l.sum ≤ most * l.place)
    × (l.sum + group_from α l.self.late l.group (min l.window longest) l.place (drop l.place l.self.streams.now)
    ≡ group_load α l.self.late l.self.streams.now l.group (min l.window longest))
