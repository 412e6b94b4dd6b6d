use Rattle.std.proofs.Common.{◌≡◌, ℕ, length}
use Rattle.planfile.specs.Points.{Fitting, Leads, noted}
use Rattle.planfile.specs.Stages.{drafted}
use Rattle.planfile.proofs.readers.read_lines.Given as goal

abbrev pub invariant-loop-record : goal.invariant-loop-record
invariant-loop-record l =
    ((room : ℕ) → Leads (noted l.initial.journal) (drafted l.initial.draft.rack) l.initial.walker.at l.initial.walker.rest.now room (noted l.journal) (drafted l.draft.rack) l.ahead.at l.ahead.rest.now)
    × Fitting (noted l.journal) l.ahead.at l.ahead.rest.now
    × (l.ahead.at ≡ l.walker.at)
    × (l.ahead.rest.now ≡ l.walker.rest.now)

abbrev pub decreases-loop-record : goal.decreases-loop-record
decreases-loop-record l = length l.ahead.rest.now
