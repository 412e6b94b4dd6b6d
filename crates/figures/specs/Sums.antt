-- What a group of a table's streams queues at the ports of one hop, by the places of the streams in the table.
-- late has for each place by how much the stream's cells come late there, or None where they come as its kind says.
use Rattle.std.specs.Prelude.{ℕ, ◌+◌, ◌-◌, ◌/◌, min, Bool, cond, ◌&&◌, List, [], ◌∷◌, Some, None, Option, ◌==◌, nat_lt, slice_index_or}
use Rattle.arrivals.specs.Delays.{delayed}
use Rattle.figures.specs.declared.groups.Group.{Group}
use Rattle.figures.specs.declared.groups.Group.TheVariants.{From, FromAbove, ToAbove, Between}
use Rattle.figures.specs.declared.racks.Line.{Line}
use Rattle.figures.specs.declared.racks.Rack.{Rack}
use Rattle.figures.specs.declared.streams.Stream.{Stream}
use Rattle.figures.specs.Racks.{numbers, line_at, spread}

abbrev pub in_group : {K : Type 0} → Group → Stream K → Bool
in_group (From l) s = s.inbound == l
in_group (FromAbove l p) s = s.inbound == l && nat_lt p s.priority
in_group (ToAbove l p) s = s.outbound == l && nat_lt p s.priority
in_group (Between i l) s = s.inbound == i && s.outbound == l

abbrev pub seen : {K : Type 0} → (K → ℕ → ℕ) → Option ℕ → K → ℕ → ℕ
seen α None kind w = α kind w
seen α (Some by) kind w = delayed (α kind) by w

-- the streams from the place i on
abbrev pub group_from : {K : Type 0} → (K → ℕ → ℕ) → List (Option ℕ) → Group → ℕ → ℕ → List (Stream K) → ℕ
group_from α late group w i [] = 0
group_from α late group w i (s ∷ ss) =
    cond (in_group group s) (seen α (slice_index_or late i None) s.kind w) 0 + group_from α late group w (i + 1) ss

abbrev pub group_load : {K : Type 0} → (K → ℕ → ℕ) → List (Option ℕ) → List (Stream K) → Group → ℕ → ℕ
group_load α late streams group w = group_from α late group w 0 streams

-- what the in-bound line i brings to the hub port of l
abbrev pub line_load : {K : Type 0} → (K → ℕ → ℕ) → List (Option ℕ) → Rack → List (Stream K) → ℕ → ℕ → Option Line → ℕ → ℕ
line_load α late rack streams l w (Some line) i =
    min ((w - 1 + spread rack) / line.cell_time + 1) (group_load α late streams (Between i l) w)
line_load α late rack streams l w None i = 0

-- the same for several lines
abbrev pub lines_load : {K : Type 0} → (K → ℕ → ℕ) → List (Option ℕ) → Rack → List (Stream K) → ℕ → ℕ → List ℕ → ℕ
lines_load α late rack streams l w [] = 0
lines_load α late rack streams l w (i ∷ is) =
    line_load α late rack streams l w (line_at rack i) i + lines_load α late rack streams l w is

abbrev pub hub_sum : {K : Type 0} → (K → ℕ → ℕ) → List (Option ℕ) → Rack → List (Stream K) → ℕ → ℕ → ℕ
hub_sum α late rack streams l w = lines_load α late rack streams l w numbers
