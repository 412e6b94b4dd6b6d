use Rattle.std.proofs.Common.{◌≡◌, ◌+◌, ◌-◌, ◌≤◌, length, take, drop}
use Rattle.records.specs.Records.{state_of}
use Rattle.planfile.specs.Figures.{LinesListed}
use Rattle.planfile.specs.Points.{Added, noted}
use Rattle.planfile.proofs.told.list_lines.Given as goal

abbrev pub invariant-loop-number : goal.invariant-loop-number
invariant-loop-number l =
    Added (LinesListed (state_of l.network.records) 1 (take (l.number-iterator.a.start - 1) l.network.records.rack.lines)) (noted l.initial.journal) (noted l.journal)
    × (length (noted l.journal) + 1 ≤ length (noted l.initial.journal) + l.number-iterator.a.start)
    × (1 ≤ l.number-iterator.a.start)
    × (l.number-iterator.a.start ≤ 17)
    × (l.number-iterator.b.rest.now ≡ drop (l.number-iterator.a.start - 1) l.figures.needs)
