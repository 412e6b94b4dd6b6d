-- What is promised of every run of a table, and what a withdrawal does to it.
use Rattle.std.specs.Prelude.{◌≡◌, ℕ, ◌<◌, ◌≤◌, true, List, ◌∷◌, ◌++◌, length}
use Rattle.figures.specs.declared.racks.Rack.{Rack}
use Rattle.figures.specs.declared.streams.Stream.{Stream}
use Rattle.ports.specs.Loads.{Lawful}
use Rattle.figures.specs.Racks.{numbers, line_at, places_of, is_inbound, is_outbound}
use Rattle.figures.specs.Tables.{◌∈◌, Distinct, table_kept, total, Delays, Needs, Passing}
use Rattle.runs.specs.Run.{Run, probe_port, hub_port, held, way, Keeps}

-- in the run r no cell is longer on its way than `longest_way` of its stream, and no port holds more cells at any tick
-- than `room` of its line
pub record Kept {K : Type 0} (rack : Rack) (r : Run K) (longest_way : Stream K → ℕ) (room : ℕ → ℕ) : Type 0 where
  pub in_time : (k : ℕ) → k < r.cells → (r.cell k).queued < r.end → way rack r k ≤ longest_way (r.cell k).stream
  pub probes : (l t : ℕ) → is_inbound (line_at rack l) ≡ true → t < r.end → held (probe_port rack r l) t ≤ room l
  pub hubs : (l t : ℕ) → is_outbound (line_at rack l) ≡ true → t < r.end → held (hub_port rack r l) t ≤ room l

-- the rack's list has a place for each number of a line and no more: in the code it is an array of that size
abbrev pub OnePlaceEach : Rack → Type 0
OnePlaceEach rack = length rack.lines ≡ length numbers

module _ (K : Type 0) where
  -- Where a sound table has its figures, no cell is longer on its way than its stream's total, and no port holds more
  -- cells than its need.
  abbrev pub Promise : Type 0
  Promise =
      (α : K → ℕ → ℕ) (rack : Rack) (table : List (Stream K)) → OnePlaceEach rack → table_kept rack table ≡ true
      → Distinct table → (q1 q2 : Stream K → ℕ) (need : ℕ → ℕ) → Delays α rack table q1 q2 → Needs α rack table q1 need
      → (r : Run K) → Keeps α rack table r → Kept rack r (λ s. total rack (q1 s) (q2 s) s) need

  -- Where a table passes, no cell misses its deadline, and no port lacks a place.
  abbrev pub PromiseKept : Type 0
  PromiseKept =
      (α : K → ℕ → ℕ) (rack : Rack) (table : List (Stream K)) → OnePlaceEach rack → Passing α rack table
      → (r : Run K) → Keeps α rack table r → Kept rack r (λ s. s.deadline) (λ l. places_of (line_at rack l))

  -- A table that passes still does without one of its streams.
  abbrev pub Withdrawal : Type 0
  Withdrawal =
      (α : K → ℕ → ℕ) (rack : Rack) (before after : List (Stream K)) (s : Stream K) → Lawful α
      → Passing α rack (before ++ s ∷ after) → Passing α rack (before ++ after)

  -- Without one of its streams a table still has its figures, and none of them is greater.
  abbrev pub FiguresFall : Type 0
  FiguresFall =
      (α : K → ℕ → ℕ) (rack : Rack) (before after : List (Stream K)) (s : Stream K) → Lawful α
      → Distinct (before ++ s ∷ after) → (q1 q2 : Stream K → ℕ) (need : ℕ → ℕ)
      → Delays α rack (before ++ s ∷ after) q1 q2 → Needs α rack (before ++ s ∷ after) q1 need
      → (q1' : Stream K → ℕ) × (q2' : Stream K → ℕ) × (need' : ℕ → ℕ)
      × Delays α rack (before ++ after) q1' q2' × Needs α rack (before ++ after) q1' need'
      × ((z : Stream K) → z ∈ (before ++ after) → (q1' z ≤ q1 z) × (q2' z ≤ q2 z)) × ((l : ℕ) → need' l ≤ need l)

  -- A run of the table without one of its streams is a run of the table: a stream may bring nothing. So what the larger
  -- table promises holds of it too.
  abbrev pub RunsStay : Type 0
  RunsStay =
      (α : K → ℕ → ℕ) (rack : Rack) (before after : List (Stream K)) (s : Stream K) → Distinct (before ++ s ∷ after)
      → (r : Run K) → Keeps α rack (before ++ after) r → Keeps α rack (before ++ s ∷ after) r
