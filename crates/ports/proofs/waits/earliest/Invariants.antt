use Rattle.std.proofs.Common.{ℕ, ◌-◌, ◌≤◌}
use Rattle.ports.specs.Limits.{horizon}
use Rattle.ports.specs.Port.{Queued}
use Rattle.ports.proofs.waits.earliest.Given as goal

abbrev pub invariant-loop-low : goal.invariant-loop-low
invariant-loop-low g l =
    let α = g.L.Load.load l.own in
    (l.low ≤ l.high) × (l.high ≤ horizon) × Queued α l.index l.high × ((d : ℕ) → Queued α l.index d → l.low ≤ d)

abbrev pub decreases-loop-low : goal.decreases-loop-low
decreases-loop-low g l = l.high - l.low
