use Rattle.std.proofs.Common.{ℕ, ◌+◌, ◌-◌, ◌≤◌}
use Rattle.ports.specs.Limits.{horizon}
use Rattle.ports.specs.Port.{Clears}
use Rattle.ports.proofs.ports.Port.clears.Given as goal

abbrev pub invariant-loop-u : goal.invariant-loop-u
invariant-loop-u g l =
    (1 ≤ l.u) × ((v : ℕ) → v ≤ horizon → Clears l.self.cell_time (g.L.Load.load l.self.load) v → l.u ≤ v)

abbrev pub decreases-loop-u : goal.decreases-loop-u
decreases-loop-u g l = horizon + 1 - l.u
