use Rattle.std.proofs.Common.{◌≡◌, ◌+◌, length, take}
use Rattle.records.specs.Records.{state_of, table}
use Rattle.planfile.specs.Figures.{StreamsListed}
use Rattle.planfile.specs.Points.{Added, noted}
use Rattle.planfile.proofs.told.list_streams.Given as goal

abbrev pub invariant-loop-place : goal.invariant-loop-place
invariant-loop-place l =
    Added (StreamsListed (state_of l.network.records) (take l.place (table l.network.records))) (noted l.initial.journal) (noted l.journal)
    × (length (noted l.journal) ≡ length (noted l.initial.journal) + l.place)
