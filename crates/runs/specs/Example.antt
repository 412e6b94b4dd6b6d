-- A rack, a table that passes and a run that keeps every rule, in which every figure is reached: nothing here is empty.
use Rattle.std.specs.Prelude.{◌≡◌, ◌-◌, ◌<◌, cond, List, [], ◌∷◌, Some, None, ◌==◌}
use Rattle.arrivals.specs.declared.messages.Message.{Message}
use Rattle.arrivals.specs.Messages.{message_alpha}
use Rattle.figures.specs.declared.racks.Line.{Line}
use Rattle.figures.specs.declared.racks.Rack.{Rack}
use Rattle.figures.specs.declared.racks.Side.{Side}
use Rattle.figures.specs.declared.racks.Side.TheVariants.{Inbound, Outbound}
use Rattle.figures.specs.declared.streams.Stream.{Stream}
use Rattle.ports.specs.Loads.{Lawful}
use Rattle.figures.specs.Tables.{total, Passing}
use Rattle.runs.specs.Run.{Run, probe_port, hub_port, held, reaches, way, Keeps}
use Rattle.runs.specs.Promise.{OnePlaceEach}

-- a line of either side, that sends a cell in 3 ticks over 1 tick more, from a port with one place
abbrev pub line : Side → Line
line side = record { side = side; cell_time = 3; propagation = 1; places = 1 }

-- line 1 to the hub, line 2 to a host, and no other
abbrev pub rack : Rack
rack =
    record {
      hub = record { least = 1; most = 4 };
      lines =
          Some (line Inbound) ∷ Some (line Outbound) ∷ None ∷ None ∷ None ∷ None ∷ None ∷ None
          ∷ None ∷ None ∷ None ∷ None ∷ None ∷ None ∷ None ∷ None ∷ [];
    }

-- one stream, of one cell in each 200 ticks
abbrev pub stream : Stream Message
stream =
    record {
      number = 7;
      priority = 1;
      inbound = 1;
      outbound = 2;
      deadline = 16;
      kind = record { period = 200; jitter = 0; cells = 1; gap = 1 };
    }

abbrev pub table : List (Stream Message)
table = stream ∷ []

-- at each of its two ports the cell is queued one tick after an unreserved cell starts, and the hub takes its longest
-- time
abbrev pub run : Run Message
run =
    record {
      end = 100;
      cells = 1;
      cell = λ _. record { stream = stream; queued = 1; sent = 3; moved = 11; left = 13 };
      unreserved = λ l. cond (l == 1) 0 10 ∷ [];
    }

-- the rack, the table and the run are such as the promise speaks of; in the run the cell reaches its host, waits at
-- each port as long as its stream's delay there, and takes its whole total; and each port, at the last tick of the
-- cell's sending, holds as many cells as it needs
pub record Reached : Type 0 where
  pub places : OnePlaceEach rack
  pub lawful : Lawful message_alpha
  pub passes : Passing message_alpha rack table
  pub keeps : Keeps message_alpha rack table run
  pub arrives : reaches rack run 0 < run.end
  pub first_wait : (run.cell 0).sent - (run.cell 0).queued ≡ passes.q1 stream
  pub second_wait : (run.cell 0).left - (run.cell 0).moved ≡ passes.q2 stream
  pub whole_way : way rack run 0 ≡ total rack (passes.q1 stream) (passes.q2 stream) stream
  pub probe_full : held (probe_port rack run 1) 5 ≡ passes.need 1
  pub hub_full : held (hub_port rack run 2) 15 ≡ passes.need 2
