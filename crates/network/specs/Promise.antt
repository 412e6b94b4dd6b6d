-- What is promised of a network: every figure is told, and no run exceeds what is told.
use Rattle.std.specs.Prelude.{◌≡◌, ℕ, ◌<◌, ◌≤◌, true, Ok}
use Rattle.figures.specs.declared.delays.StreamFigures.{StreamFigures}
use Rattle.figures.specs.declared.streams.Stream.{Stream}
use Rattle.figures.specs.Racks.{line_at, is_inbound, is_outbound}
use Rattle.figures.specs.Tables.{◌∈◌}
use Rattle.runs.specs.Run.{Run, probe_port, hub_port, held, way, Keeps}
use Rattle.records.specs.declared.lines.LineFigures.{LineFigures}
use Rattle.records.specs.States.{State, is_there, StreamAnswer, LineAnswer}

-- in the run r no cell is longer on its way than the told delay of its stream, which is at most its deadline, and at no
-- tick does a port hold more cells than its told need, which is at most its places
pub record Covered {K : Type 0} (α : K → ℕ → ℕ) (st : State K) (r : Run K) : Type 0 where
  pub in_time : (k : ℕ) → k < r.cells → (r.cell k).queued < r.end
      → (told : StreamFigures) → StreamAnswer α st (r.cell k).stream.number (Ok told)
      → (way st.rack r k ≤ told.total) × (told.total ≤ (r.cell k).stream.deadline)
  pub probes : (l t : ℕ) → is_inbound (line_at st.rack l) ≡ true → t < r.end
      → (told : LineFigures) → LineAnswer α st l (Ok told)
      → (held (probe_port st.rack r l) t ≤ told.need) × (told.need ≤ told.places)
  pub hubs : (l t : ℕ) → is_outbound (line_at st.rack l) ≡ true → t < r.end
      → (told : LineFigures) → LineAnswer α st l (Ok told)
      → (held (hub_port st.rack r l) t ≤ told.need) × (told.need ≤ told.places)

-- the figure calls tell a figure for every stream of the table and for every line, and every run is covered
pub record Promised {K : Type 0} (α : K → ℕ → ℕ) (st : State K) : Type 0 where
  pub streams_told : (s : Stream K) → s ∈ st.streams → (told : StreamFigures) × StreamAnswer α st s.number (Ok told)
  pub lines_told : (l : ℕ) → is_there (line_at st.rack l) ≡ true → (told : LineFigures) × LineAnswer α st l (Ok told)
  pub covered : (r : Run K) → Keeps α st.rack st.streams r → Covered α st r
