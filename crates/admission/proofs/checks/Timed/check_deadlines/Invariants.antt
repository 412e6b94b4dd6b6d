use Rattle.admission.proofs.Parts.{InTimeBelow}
use Rattle.admission.proofs.checks.Timed.check_deadlines.Given as goal

abbrev pub invariant-loop-place : goal.invariant-loop-place
invariant-loop-place g l = InTimeBelow l.self.table.rack.now l.self.table.streams.now l.self.delays l.place
