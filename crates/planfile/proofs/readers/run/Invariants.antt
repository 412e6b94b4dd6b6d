use Rattle.std.proofs.Common.{ℕ, length}
use Rattle.records.specs.Records.{state_of}
use Rattle.planfile.specs.Points.{Fitting, Leads, noted}
use Rattle.planfile.specs.Stages.{networked}
use Rattle.planfile.proofs.readers.run.Given as goal

abbrev pub invariant-loop-record : goal.invariant-loop-record
invariant-loop-record l =
    ((room : ℕ) → Leads (noted l.initial.journal) (networked (state_of l.initial.admitted.network.records)) l.initial.ahead.at l.initial.ahead.rest.now room (noted l.journal) (networked (state_of l.admitted.network.records)) l.ahead.at l.ahead.rest.now)
    × Fitting (noted l.journal) l.ahead.at l.ahead.rest.now

abbrev pub decreases-loop-record : goal.decreases-loop-record
decreases-loop-record l = length l.ahead.rest.now
