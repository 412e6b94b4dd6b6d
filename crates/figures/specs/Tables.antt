-- The figures of a table of streams in a rack: delays over two hops, and the need of each port.
-- α is the arrival bound of each kind.
use Rattle.std.specs.Prelude.{◌≡◌, ℕ, ◌+◌, ◌-◌, ◌/◌, ◌≤◌, min, Bool, true, cond, ◌&&◌, ◌⊎◌, List, [], ◌∷◌, length, Some, None, sum_by, Option, ◌==◌, nat_eq, nat_le, nat_lt}
use Rattle.arrivals.specs.Delays.{delayed}
use Rattle.figures.specs.declared.racks.Line.{Line}
use Rattle.figures.specs.declared.racks.Rack.{Rack}
use Rattle.figures.specs.declared.streams.Stream.{Stream}
use Rattle.figures.specs.Limits.{most_streams}
use Rattle.ports.specs.Port.{PortDelay, PortNeed}
use Rattle.figures.specs.Racks.{numbers, line_at, cell_time, sending, spread, is_inbound, is_outbound, rack_kept}

-- x stands in the list
infixl 20 ◌∈◌
abbrev pub ◌∈◌ : {X : Type 0} → X → List X → Type 0
x ∈ [] = ⊥
x ∈ (y ∷ ys) = (x ≡ y) ⊎ (x ∈ ys)

-- the sum of f over the elements that pass p
abbrev pub over : {X : Type 0} → (X → Bool) → (X → ℕ) → List X → ℕ
over p f xs = sum_by (λ x. cond (p x) (f x) 0) xs

-- no two streams of the table have one number
abbrev pub Distinct : {K : Type 0} → List (Stream K) → Type 0
Distinct {K} table = (s z : Stream K) → s ∈ table → z ∈ table → s.number ≡ z.number → s ≡ z

-- each priority is below `high`, and the priorities fall from one stream to the next
abbrev pub falls_under : {K : Type 0} → ℕ → List (Stream K) → Bool
falls_under high [] = true
falls_under high (s ∷ ss) = nat_lt s.priority high && falls_under s.priority ss

-- the stream's lines are there, each on its side
abbrev pub placed : {K : Type 0} → Rack → Stream K → Bool
placed rack s = is_inbound (line_at rack s.inbound) && is_outbound (line_at rack s.outbound)

abbrev pub all_placed : {K : Type 0} → Rack → List (Stream K) → Bool
all_placed rack [] = true
all_placed rack (s ∷ ss) = placed rack s && all_placed rack ss

-- what every table keeps: few streams, in falling order of priority, on lines that are there
abbrev pub table_kept : {K : Type 0} → Rack → List (Stream K) → Bool
table_kept rack table =
    rack_kept rack && (nat_le (length table) most_streams && (falls_under 256 table && all_placed rack table))

-- the most cells that the stream s queues in w ticks at its probe port, and at its hub port, where q1 has the delay of
-- each stream at its probe port
abbrev pub probe_bound : {K : Type 0} → (K → ℕ → ℕ) → Stream K → ℕ → ℕ
probe_bound α s = α s.kind

abbrev pub hub_bound : {K : Type 0} → (K → ℕ → ℕ) → Rack → (Stream K → ℕ) → Stream K → ℕ → ℕ
hub_bound α rack q1 s = delayed (α s.kind) (q1 s + spread rack)

-- the longest time that a cell of s is on its way, where q1 and q2 are its delays at its two ports
abbrev pub total : {K : Type 0} → Rack → ℕ → ℕ → Stream K → ℕ
total rack q1 q2 s = q1 + sending rack s.inbound + rack.hub.most + (q2 + sending rack s.outbound)

module _ {K : Type 0} (α : K → ℕ → ℕ) (rack : Rack) (table : List (Stream K)) where
  -- the most cells that the streams of the port with higher priority than s queue in w ticks
  abbrev pub probe_higher : Stream K → ℕ → ℕ
  probe_higher s w =
      over (λ z. (z.inbound == s.inbound) && nat_lt s.priority z.priority) (λ z. probe_bound α z w) table

  abbrev pub hub_higher : (Stream K → ℕ) → Stream K → ℕ → ℕ
  hub_higher q1 s w =
      over (λ z. (z.outbound == s.outbound) && nat_lt s.priority z.priority) (λ z. hub_bound α rack q1 z w) table

  -- q1 and q2: the delay of s at its probe port, and at its hub port
  abbrev pub FirstDelay : Stream K → Option ℕ → Type 0
  FirstDelay s = PortDelay (cell_time rack s.inbound) (probe_bound α s) (probe_higher s)

  abbrev pub SecondDelay : (Stream K → ℕ) → Stream K → Option ℕ → Type 0
  SecondDelay q1 s = PortDelay (cell_time rack s.outbound) (hub_bound α rack q1 s) (hub_higher q1 s)

  -- the most cells that all streams of the probe port of l queue there in u ticks
  abbrev pub probe_load : ℕ → ℕ → ℕ
  probe_load l u = over (λ z. nat_eq z.inbound l) (λ z. probe_bound α z u) table

  -- of the in-bound line i, to the hub port of l: no more than the line can carry, and no more than its streams queue
  abbrev pub from_line : (Stream K → ℕ) → ℕ → ℕ → Option Line → ℕ → ℕ
  from_line q1 l u (Some line) i =
      min ((u - 1 + spread rack) / line.cell_time + 1)
      (over (λ z. (z.inbound == i) && z.outbound == l) (λ z. hub_bound α rack q1 z u) table)
  from_line q1 l u None i = 0

  -- the same for the hub port of l; a line that shares no stream with it gives 0
  abbrev pub hub_load : (Stream K → ℕ) → ℕ → ℕ → ℕ
  hub_load q1 l u = sum_by (λ i. from_line q1 l u (line_at rack i) i) numbers

  -- the need of the line l, by its side
  abbrev pub ProbeNeed : ℕ → Option ℕ → Type 0
  ProbeNeed l = PortNeed (cell_time rack l) (probe_load l)

  abbrev pub HubNeed : (Stream K → ℕ) → ℕ → Option ℕ → Type 0
  HubNeed q1 l = PortNeed (cell_time rack l) (hub_load q1 l)

  -- each stream has its delays at its two ports
  pub record Delays (q1 q2 : Stream K → ℕ) : Type 0 where
    pub at_probe : (s : Stream K) → s ∈ table → FirstDelay s (Some (q1 s))
    pub at_hub : (s : Stream K) → s ∈ table → SecondDelay q1 s (Some (q2 s))

  -- each port that there is has its need
  pub record Needs (q1 : Stream K → ℕ) (need : ℕ → ℕ) : Type 0 where
    pub of_probes : (l : ℕ) → is_inbound (line_at rack l) ≡ true → ProbeNeed l (Some (need l))
    pub of_hubs : (l : ℕ) → is_outbound (line_at rack l) ≡ true → HubNeed q1 l (Some (need l))

  -- the table passes every check: all figures are there, no total is above its deadline, no need above its places
  pub record Passing : Type 0 where
    pub kept : table_kept rack table ≡ true
    pub distinct : Distinct table
    pub q1 : Stream K → ℕ
    pub q2 : Stream K → ℕ
    pub need : ℕ → ℕ
    pub delays : Delays q1 q2
    pub needs : Needs q1 need
    pub in_time : (s : Stream K) → s ∈ table → total rack (q1 s) (q2 s) s ≤ s.deadline
    pub room : (l : ℕ) (line : Line) → line_at rack l ≡ Some line → need l ≤ line.places
