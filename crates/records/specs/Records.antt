-- The records of a network as a state.
use Rattle.std.specs.Prelude.{min, List, length, take}
use Rattle.figures.specs.declared.streams.Stream.{Stream}
use Rattle.figures.specs.Limits.{most_streams}
use Rattle.records.specs.declared.records.Records.{Records}
use Rattle.records.specs.States.{State}

-- the table is the front of the lent memory
abbrev pub table : {K : Type 0} → Records K → List (Stream K)
table n = take n.table.len n.table.memory.now

abbrev pub state_of : {K : Type 0} → Records K → State K
state_of n = record { rack = n.rack; streams = table n; room = min most_streams (length n.table.memory.now) }
