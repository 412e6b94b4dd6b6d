-- A worked plan: a small table in a small rack, with each of its figures.
use Rattle.std.specs.Prelude.{◌≡◌, ℕ, ◌+◌, ◌-◌, ◌*◌, ◌/◌, ◌≤◌, cond, List, [], ◌∷◌, Some, None, ◌==◌, nat_eq}
use Rattle.arrivals.specs.declared.buckets.Bucket.{Bucket}
use Rattle.arrivals.specs.declared.choices.Choice.{Choice}
use Rattle.arrivals.specs.declared.choices.Choice.TheVariants.{First, Second}
use Rattle.arrivals.specs.declared.messages.Message.{Message}
use Rattle.arrivals.specs.Buckets.{bucket_alpha}
use Rattle.arrivals.specs.Choices.{chosen}
use Rattle.arrivals.specs.Delays.{delayed}
use Rattle.arrivals.specs.Least.{Least, Found, Largest}
use Rattle.arrivals.specs.Messages.{message_alpha}
use Rattle.arrivals.specs.Worked.{message_10, WorkedKinds}
use Rattle.figures.specs.declared.racks.Line.{Line}
use Rattle.figures.specs.declared.racks.Rack.{Rack}
use Rattle.figures.specs.declared.racks.Side.TheVariants.{Inbound, Outbound}
use Rattle.figures.specs.declared.streams.Stream.{Stream}
use Rattle.ports.specs.Limits.{horizon}
use Rattle.ports.specs.Port.{Wait, Queued, PortDelay, Clears, PortNeed}
use Rattle.figures.specs.Racks.{cell_time}
use Rattle.figures.specs.Tables.{over, probe_bound, hub_bound, total, probe_higher, hub_higher, FirstDelay, SecondDelay, probe_load, hub_load, ProbeNeed, HubNeed, Passing}

abbrev pub line_1 : Line
line_1 = record { side = Inbound; cell_time = 2; propagation = 5; places = 8 }

abbrev pub line_2 : Line
line_2 = record { side = Outbound; cell_time = 1; propagation = 5; places = 8 }

abbrev pub rack_12 : Rack
rack_12 =
    record {
      hub = record { least = 1; most = 3 };
      lines = Some line_1 ∷ Some line_2 ∷ None ∷ None ∷ None ∷ None ∷ None ∷ None ∷ None ∷ None ∷ None ∷ None ∷ None ∷ None ∷ None ∷ None ∷ [];
    }

-- two cells at once, and then one in each 10 ticks
abbrev pub bucket_11 : Bucket
bucket_11 = record { burst = 2; interval = 10 }

abbrev pub Kind : Type 0
Kind = Choice Message Bucket

abbrev pub kind_alpha : Kind → ℕ → ℕ
kind_alpha = chosen message_alpha bucket_alpha

abbrev pub stream_10 : Stream Kind
stream_10 = record { number = 10; priority = 2; inbound = 1; outbound = 2; deadline = 18; kind = First message_10 }

abbrev pub stream_11 : Stream Kind
stream_11 = record { number = 11; priority = 1; inbound = 1; outbound = 2; deadline = 30; kind = Second bucket_11 }

abbrev pub table_12 : List (Stream Kind)
table_12 = stream_10 ∷ stream_11 ∷ []

-- the delays of the two streams, which are told apart by their priorities
abbrev pub first_12 : Stream Kind → ℕ
first_12 s = cond (s.priority == 2) 1 9

abbrev pub second_12 : Stream Kind → ℕ
second_12 s = cond (s.priority == 2) 1 5

-- the most cells that both streams queue at the hub port of line 2, whatever line 1 can carry
abbrev pub rateless_load : ℕ → ℕ
rateless_load u = over (λ z. nat_eq z.outbound 2) (λ z. hub_bound kind_alpha rack_12 first_12 z u) table_12

-- one cell in each two ticks
abbrev pub quick : Message
quick = record { period = 2; jitter = 0; cells = 1; gap = 1 }

pub record WorkedPlan : Type 0 where
  -- α(4) = 2, α(5) = 3 and α(21) = 4 of the message of stream 10
  pub kinds : WorkedKinds
  -- stream 11 at line 1: w_0 and w_1
  pub wait_0 : Wait 2 (probe_higher kind_alpha rack_12 table_12 stream_11) 0 (Some 7)
  pub wait_1 : Wait 2 (probe_higher kind_alpha rack_12 table_12 stream_11) 1 (Some 9)
  -- both cells can be queued at once: e_0 and e_1
  pub early_0 : Least (Queued (probe_bound kind_alpha stream_11) 0) 0
  pub early_1 : Least (Queued (probe_bound kind_alpha stream_11) 1) 0
  -- if no cell after the first counted, the delay would be 7
  pub first_only : (w e : ℕ)
      → Wait 2 (probe_higher kind_alpha rack_12 table_12 stream_11) 0 (Some w) → Least (Queued (probe_bound kind_alpha stream_11) 0) e
      → w - e ≡ 7
  -- the delays at the probe port of line 1
  pub first_10 : FirstDelay kind_alpha rack_12 table_12 stream_10 (Some 1)
  pub first_11 : FirstDelay kind_alpha rack_12 table_12 stream_11 (Some 9)
  -- the delays at the hub port of line 2
  pub second_10 : SecondDelay kind_alpha rack_12 table_12 first_12 stream_10 (Some 1)
  pub second_11 : SecondDelay kind_alpha rack_12 table_12 first_12 stream_11 (Some 5)
  -- without the spread of the hub's switch times in what it queues there, that of stream 10 would be 0
  pub spreadless : PortDelay (cell_time rack_12 2) (delayed (probe_bound kind_alpha stream_10) (first_12 stream_10)) (hub_higher kind_alpha rack_12 table_12 first_12 stream_10) (Some 0)
  pub total_10 : total rack_12 (first_12 stream_10) (second_12 stream_10) stream_10 ≡ 18
  pub total_11 : total rack_12 (first_12 stream_11) (second_12 stream_11) stream_11 ≡ 30
  -- line 1: U and the need
  pub clears_1 : Found (Clears 2 (probe_load kind_alpha rack_12 table_12 1)) horizon (Some 13)
  pub need_1 : ProbeNeed kind_alpha rack_12 table_12 1 (Some 4)
  -- if no dump went in front, U would be 10 and the need 3: the rest of a dump is C - 1 ticks, so that without it u + 1 - C is
  -- u in `Clears`, and u - C is u - 1 in `holding`
  pub dumpless_clears : Least (λ u. (1 ≤ u) × (probe_load kind_alpha rack_12 table_12 1 u ≤ u / 2)) 10
  pub dumpless_need : Largest (λ u. probe_load kind_alpha rack_12 table_12 1 u - ((u - 1) / 2)) 1 10 3
  -- line 2: U and the need
  pub clears_2 : Found (Clears 1 (hub_load kind_alpha rack_12 table_12 first_12 2)) horizon (Some 2)
  pub need_2 : HubNeed kind_alpha rack_12 table_12 first_12 2 (Some 2)
  -- if the rate of line 1 were forgotten, the need would be 5
  pub rateless_need : PortNeed 1 rateless_load (Some 5)
  -- the definitions can be met: the plan passes
  pub passes : Passing kind_alpha rack_12 table_12
  -- Two streams of the message `quick` at one port with the cell time 1: the delay of the lower one is 1.
  pub quick_delay : PortDelay 1 (message_alpha quick) (message_alpha quick) (Some 1)
  -- If a cell queued in the tick of the start did not go first, so that α(w) stood in place of α(w + 1), the wait of its first
  -- cell would be 0, and the delay too.
  pub closed_wait : Least (λ w. w ≡ (1 - 1) + 0 * 1 + 1 * message_alpha quick w) 0
  pub closed_delay : PortDelay 1 (message_alpha quick) (λ w. message_alpha quick (w - 1)) (Some 0)
