use Rattle.std.proofs.Common.{ℕ, ◌<◌, ◌≤◌, Ok}
use Rattle.admission.specs.Checks.{LineTold}
use Rattle.admission.proofs.checks.Timed.check_lines.Given as goal

abbrev pub invariant-loop-number : goal.invariant-loop-number
invariant-loop-number g l =
    (m : ℕ) → 1 ≤ m → m < l.number → LineTold g.K.Arrival.alpha l.self.table.rack.now l.self.table.streams.now l.self.delays m (Ok tt)
