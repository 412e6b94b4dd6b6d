-- A run of the streams of a table in a rack, and the rules that it keeps.
-- A run has the ticks below `end`: what falls at or after `end` is no part of the run.
use Rattle.std.specs.Prelude.{◌≡◌, ℕ, ◌+◌, ◌-◌, ◌<◌, ◌≤◌, min, Bool, true, ◌&&◌, ◌⊎◌, List, length, ◌==◌, nat_le, nat_lt, slice_index}
use Rattle.arrivals.specs.Limits.{longest}
use Rattle.figures.specs.declared.racks.Rack.{Rack}
use Rattle.figures.specs.declared.streams.Stream.{Stream}
use Rattle.figures.specs.Racks.{line_at, cell_time, sending, is_inbound, is_outbound}
use Rattle.figures.specs.Tables.{◌∈◌}
use Rattle.runs.specs.Count.{count, number}

-- a cell of a stream, and its four ticks: when it is queued at its probe port, when that starts to send it, when it has
-- moved to its hub port and is queued there, and when it leaves that, which then starts to send it
pub record Cell (K : Type 0) : Type 0 where
  pub stream : Stream K
  pub queued : ℕ
  pub sent : ℕ
  pub moved : ℕ
  pub left : ℕ

-- the cells have the numbers below `cells`; `unreserved l` has the ticks at which the line l starts an unreserved cell
pub record Run (K : Type 0) : Type 0 where
  pub end : ℕ
  pub cells : ℕ
  pub cell : ℕ → Cell K
  pub unreserved : ℕ → List ℕ

-- one port of a run, whose line sends a cell in `cell` ticks: which cells come to it before the end, when each is
-- queued there and when it starts, and when the unreserved cells start
pub record Port (K : Type 0) : Type 0 where
  pub end : ℕ
  pub cells : ℕ
  pub cell : ℕ
  pub stream : ℕ → Stream K
  pub here : ℕ → Bool
  pub queued : ℕ → ℕ
  pub start : ℕ → ℕ
  pub unreserved : List ℕ

-- the tick at which the unreserved cell d starts
abbrev pub other : {K : Type 0} → Port K → ℕ → ℕ
other p d = slice_index p.unreserved d

-- the cell k comes to the port
abbrev pub At : {K : Type 0} → Port K → ℕ → Type 0
At p k = (k < p.cells) × (p.here k ≡ true)

-- the cell k is queued at the tick t, and did not start before it
abbrev pub Waits : {K : Type 0} → Port K → ℕ → ℕ → Type 0
Waits p k t = At p k × (p.queued k ≤ t) × (t ≤ p.start k)

-- no cell that started before t is still being sent
pub record Free {K : Type 0} (p : Port K) (t : ℕ) : Type 0 where
  pub of_streams : (k : ℕ) → At p k → p.start k < t → p.start k + p.cell ≤ t
  pub of_others : (d : ℕ) → d < length p.unreserved → other p d < t → other p d + p.cell ≤ t

-- two cells that start at a and at b are not on a line of cell time C together
abbrev pub Apart : ℕ → ℕ → ℕ → Type 0
Apart C a b = (a + C ≤ b) ⊎ (b + C ≤ a)

-- The port's line carries one cell at a time, be they of streams (alone), of a stream and unreserved (apart), or
-- unreserved (dumps_apart). The line does not rest while a cell of a stream waits (works). Of those that wait, the cell
-- that starts has the largest priority (highest), and of its stream it was queued first (oldest). An unreserved cell
-- starts only where no cell of a stream waits (others_last).
pub record Serves {K : Type 0} (p : Port K) : Type 0 where
  pub alone : (k z : ℕ) → At p k → At p z → p.start k < p.end → p.start z < p.end
      → (k ≡ z) ⊎ Apart p.cell (p.start k) (p.start z)
  pub apart : (k d : ℕ) → At p k → d < length p.unreserved → p.start k < p.end → other p d < p.end
      → Apart p.cell (p.start k) (other p d)
  pub dumps_apart : (d e : ℕ) → d < length p.unreserved → e < length p.unreserved → other p d < p.end
      → other p e < p.end → (d ≡ e) ⊎ Apart p.cell (other p d) (other p e)
  pub works : (t k : ℕ) → t < p.end → Waits p k t → Free p t → (z : ℕ) × At p z × (p.start z ≡ t)
  pub highest : (z k : ℕ) → At p z → p.start z < p.end → Waits p k (p.start z)
      → (p.stream k).priority ≤ (p.stream z).priority
  pub oldest : (z k : ℕ) → At p z → p.start z < p.end → Waits p k (p.start z)
      → (p.stream z).number ≡ (p.stream k).number → p.queued z ≤ p.queued k
  pub others_last : (d k : ℕ) → d < length p.unreserved → other p d < p.end → Waits p k (other p d) → ⊥

-- how many cells hold a place at the tick t: each from when it is queued until its last tick on the line
abbrev pub held : {K : Type 0} → Port K → ℕ → ℕ
held p t = count (λ k. p.here k && (nat_le (p.queued k) t && nat_lt t (p.start k + p.cell))) p.cells

module _ {K : Type 0} (rack : Rack) (r : Run K) where
  -- the probe port of the in-bound line l, and the hub port of the out-bound line l
  abbrev pub probe_port : ℕ → Port K
  probe_port l =
      record {
        end = r.end;
        cells = r.cells;
        cell = cell_time rack l;
        stream = λ k. (r.cell k).stream;
        here = λ k. ((r.cell k).stream.inbound == l) && nat_lt (r.cell k).queued r.end;
        queued = λ k. (r.cell k).queued;
        start = λ k. (r.cell k).sent;
        unreserved = r.unreserved l;
      }

  abbrev pub hub_port : ℕ → Port K
  hub_port l =
      record {
        end = r.end;
        cells = r.cells;
        cell = cell_time rack l;
        stream = λ k. (r.cell k).stream;
        here = λ k. ((r.cell k).stream.outbound == l) && nat_lt (r.cell k).moved r.end;
        queued = λ k. (r.cell k).moved;
        start = λ k. (r.cell k).left;
        unreserved = r.unreserved l;
      }

  -- the tick at which the cell k reaches its host
  abbrev pub reaches : ℕ → ℕ
  reaches k = (r.cell k).left + sending rack (r.cell k).stream.outbound

  -- how long the cell k is on its way, within the run
  abbrev pub way : ℕ → ℕ
  way k = min (reaches k) (r.end - 1) - (r.cell k).queued

-- how many cells of the stream s are queued at its probe port in the w ticks from t on, within the run
abbrev pub brought : {K : Type 0} → Run K → Stream K → ℕ → ℕ → ℕ
brought r s t w =
    number r.cells (λ k. ((r.cell k).stream.number == s.number) && nat_lt (r.cell k).queued r.end)
    (λ k. (r.cell k).queued) t (t + w)

-- The rules of a run: its cells are of the table's streams (known), and in no window more of a stream are queued than
-- its kind allows (bounded); no cell is sent or leaves before it is queued (sent_after, left_after); from its start at
-- the probe port to its hub port a cell takes the line's time and a switch time (moved_after, moved_by); and each port
-- serves its cells as it must (at_probes, at_hubs).
pub record Keeps {K : Type 0} (α : K → ℕ → ℕ) (rack : Rack) (table : List (Stream K)) (r : Run K) : Type 0 where
  pub known : (k : ℕ) → k < r.cells → (r.cell k).stream ∈ table
  pub bounded : (s : Stream K) → s ∈ table → (t w : ℕ) → 1 ≤ w → w ≤ longest → brought r s t w ≤ α s.kind w
  pub sent_after : (k : ℕ) → k < r.cells → (r.cell k).sent < r.end → (r.cell k).queued ≤ (r.cell k).sent
  pub moved_after : (k : ℕ) → k < r.cells → (r.cell k).moved < r.end
      → (r.cell k).sent + sending rack (r.cell k).stream.inbound + rack.hub.least ≤ (r.cell k).moved
  pub moved_by : (k : ℕ) → k < r.cells → (r.cell k).sent < r.end
      → (r.cell k).moved ≤ (r.cell k).sent + sending rack (r.cell k).stream.inbound + rack.hub.most
  pub left_after : (k : ℕ) → k < r.cells → (r.cell k).left < r.end → (r.cell k).moved ≤ (r.cell k).left
  pub at_probes : (l : ℕ) → is_inbound (line_at rack l) ≡ true → Serves (probe_port rack r l)
  pub at_hubs : (l : ℕ) → is_outbound (line_at rack l) ≡ true → Serves (hub_port rack r l)
