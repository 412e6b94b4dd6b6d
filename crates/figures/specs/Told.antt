-- What the figure calls answer, for a table in a rack.
use Rattle.std.specs.Prelude.{◌≡◌, ℕ, ◌+◌, ◌-◌, ◌<◌, ◌≤◌, ◌⊎◌, List, ◌∷◌, ◌++◌, length, Some, None, Ok, Err, Option, Result, slice_index, slice_index_or}
use Rattle.std.specs.List.{HoldsAt}
use Rattle.figures.specs.declared.delays.Delays.{Delays as Listing}
use Rattle.figures.specs.declared.delays.Figures.{Figures}
use Rattle.figures.specs.declared.delays.StreamFigures.{StreamFigures}
use Rattle.figures.specs.declared.faults.FigureFault.{FigureFault}
use Rattle.figures.specs.declared.faults.FigureFault.TheVariants.{NoDelay, NoNeed}
use Rattle.figures.specs.declared.hops.Hop.{Hop}
use Rattle.figures.specs.declared.hops.Hop.TheVariants.{Probe, Hub}
use Rattle.figures.specs.declared.racks.Line.{Line}
use Rattle.figures.specs.declared.racks.Rack.{Rack}
use Rattle.figures.specs.declared.racks.Side.{Side}
use Rattle.figures.specs.declared.racks.Side.TheVariants.{Inbound, Outbound}
use Rattle.figures.specs.declared.streams.Stream.{Stream}
use Rattle.ports.specs.Limits.{horizon}
use Rattle.figures.specs.Racks.{line_at, spread}
use Rattle.figures.specs.Tables.{◌∈◌, FirstDelay, SecondDelay, ProbeNeed, HubNeed, total, Delays}

-- the list has q of each stream, at the stream's place in the table
abbrev pub Listed : {K : Type 0} → (Stream K → ℕ) → List (Stream K) → List ℕ → Type 0
Listed q table figures = (i : ℕ) → i < length table → HoldsAt (λ s. slice_index figures i ≡ q s) table i

-- the first stream of the table that has no figure, and its number
pub record FirstWithout {K : Type 0} (Has : Stream K → Option ℕ → Type 0) (table : List (Stream K)) (number : ℕ) : Type 0 where
  pub before : List (Stream K)
  pub stream : Stream K
  pub after : List (Stream K)
  pub split : table ≡ before ++ stream ∷ after
  pub earlier : (s : Stream K) → s ∈ before → (q : ℕ) × Has s (Some q)
  pub none : Has stream None
  pub named : stream.number ≡ number

module _ {K : Type 0} (α : K → ℕ → ℕ) (rack : Rack) (table : List (Stream K)) where
  -- the delays are those of the table's streams
  pub record DelaysAre (figures : Listing) : Type 0 where
    pub q1 : Stream K → ℕ
    pub q2 : Stream K → ℕ
    pub are : Delays α rack table q1 q2
    pub first_listed : Listed q1 table figures.q1
    pub second_listed : Listed q2 table figures.q2

  -- some stream has no q2, but each has its q1
  pub record NoSecond (number : ℕ) : Type 0 where
    pub q1 : Stream K → ℕ
    pub firsts : (s : Stream K) → s ∈ table → FirstDelay α rack table s (Some (q1 s))
    pub missing : FirstWithout (SecondDelay α rack table q1) table number

  -- all q1 are looked for in table order, then all q2
  abbrev pub DelaysTold : Result Listing FigureFault → Type 0
  DelaysTold (Ok figures) = DelaysAre figures
  DelaysTold (Err (NoDelay number)) = FirstWithout (FirstDelay α rack table) table number ⊎ NoSecond number
  DelaysTold (Err (NoNeed line)) = ⊥

  -- the need of the line l, by its side; none is asked of a line that is not there
  abbrev pub NeedOn : (Stream K → ℕ) → ℕ → Side → Option ℕ → Type 0
  NeedOn q1 l Inbound = ProbeNeed α rack table l
  NeedOn q1 l Outbound = HubNeed α rack table q1 l

  abbrev pub NeedOf : (Stream K → ℕ) → ℕ → Option Line → Option ℕ → Type 0
  NeedOf q1 l (Some line) r = NeedOn q1 l line.side r
  NeedOf q1 l None r = ⊥

  abbrev pub NeedTold : (Stream K → ℕ) → ℕ → Result (Option ℕ) FigureFault → Type 0
  NeedTold q1 l (Ok (Some n)) = NeedOf q1 l (line_at rack l) (Some n)
  NeedTold q1 l (Ok None) = line_at rack l ≡ None
  NeedTold q1 l (Err (NoNeed line)) = (line ≡ l) × NeedOf q1 l (line_at rack l) None
  NeedTold q1 l (Err (NoDelay number)) = ⊥

-- the needs of all lines by rising number, or the first line that has none
module _ {K : Type 0} (α : K → ℕ → ℕ) (rack : Rack) (table : List (Stream K)) (q1 : Stream K → ℕ) where
  pub record FirstNever (fault : FigureFault) : Type 0 where
    pub line : ℕ
    pub low : 1 ≤ line
    pub high : line ≤ 16
    pub earlier : (l : ℕ) → 1 ≤ l → l < line → (r : Option ℕ) × NeedTold α rack table q1 l (Ok r)
    pub never : NeedTold α rack table q1 line (Err fault)

  abbrev pub NeedsTold : Result (List (Option ℕ)) FigureFault → Type 0
  NeedsTold (Ok needs) = (l : ℕ) → 1 ≤ l → l ≤ 16 → NeedTold α rack table q1 l (Ok (slice_index_or needs (l - 1) None))
  NeedsTold (Err fault) = FirstNever fault

-- all figures of a table: all q1 in table order, all q2, then the need of each line
module _ {K : Type 0} (α : K → ℕ → ℕ) (rack : Rack) (table : List (Stream K)) where
  pub record NoNeeds (fault : FigureFault) : Type 0 where
    pub delays : Listing
    pub are : DelaysAre α rack table delays
    pub never : FirstNever α rack table are.q1 fault

  pub record FiguresAre (figures : Figures) : Type 0 where
    pub delays_are : DelaysAre α rack table figures.delays
    pub needs_are : NeedsTold α rack table delays_are.q1 (Ok figures.needs)

  abbrev pub FiguresTold : Result Figures FigureFault → Type 0
  FiguresTold (Ok figures) = FiguresAre figures
  FiguresTold (Err fault) = DelaysTold α rack table (Err fault) ⊎ NoNeeds fault

-- the same for the q1 that the list has
abbrev pub NeedsToldFor : {K : Type 0} → (K → ℕ → ℕ) → Rack → List (Stream K) → List ℕ → Result (List (Option ℕ)) FigureFault → Type 0
NeedsToldFor {K} α rack table figures r = (q1 : Stream K → ℕ) → Listed q1 table figures → NeedsTold α rack table q1 r

abbrev pub NeedToldFor : {K : Type 0} → (K → ℕ → ℕ) → Rack → List (Stream K) → List ℕ → ℕ → Result (Option ℕ) FigureFault → Type 0
NeedToldFor {K} α rack table figures l r = (q1 : Stream K → ℕ) → Listed q1 table figures → NeedTold α rack table q1 l r

abbrev pub HubNeedFor : {K : Type 0} → (K → ℕ → ℕ) → Rack → List (Stream K) → List ℕ → ℕ → Option ℕ → Type 0
HubNeedFor {K} α rack table figures l r = (q1 : Stream K → ℕ) → Listed q1 table figures → HubNeed α rack table q1 l r

-- the figures of the stream at the place i, by the delays of all streams
pub record StreamTold {K : Type 0} (rack : Rack) (table : List (Stream K)) (delays : Listing) (i : ℕ) (figures : StreamFigures) : Type 0 where
  pub there : i < length table
  pub q1_is : figures.q1 ≡ slice_index delays.q1 i
  pub q2_is : figures.q2 ≡ slice_index delays.q2 i
  pub total_is : HoldsAt (λ s. figures.total ≡ total rack figures.q1 figures.q2 s) table i

-- At the ports of one hop: by how much the cells of a stream come late there, where q is its q1.
abbrev pub lateness : Hop → Rack → ℕ → Option ℕ
lateness Probe rack q = None
lateness Hub rack q = Some (q + spread rack)

abbrev pub Late : {K : Type 0} → Hop → Rack → (Stream K → ℕ) → List (Stream K) → List (Option ℕ) → Type 0
Late hop rack q1 table late = (i : ℕ) → i < length table → HoldsAt (λ s. slice_index_or late i None ≡ lateness hop rack (q1 s)) table i

-- the delay of a stream at its port there
abbrev pub DelayAt : {K : Type 0} → (K → ℕ → ℕ) → Rack → List (Stream K) → Hop → (Stream K → ℕ) → Stream K → Option ℕ → Type 0
DelayAt α rack table Probe q1 = FirstDelay α rack table
DelayAt α rack table Hub q1 = SecondDelay α rack table q1

-- all delays there, in table order
abbrev pub HopTold : {K : Type 0} → (K → ℕ → ℕ) → Rack → List (Stream K) → Hop → (Stream K → ℕ) → Result (List ℕ) FigureFault → Type 0
HopTold α rack table hop q1 (Ok figures) = (i : ℕ) → i < length table → HoldsAt (λ s. DelayAt α rack table hop q1 s (Some (slice_index figures i))) table i
HopTold α rack table hop q1 (Err (NoDelay number)) = FirstWithout (DelayAt α rack table hop q1) table number
HopTold α rack table hop q1 (Err (NoNeed line)) = ⊥

-- the same for any q1 by which `late` was made
abbrev pub StreamToldFor : {K : Type 0} → (K → ℕ → ℕ) → Rack → List (Stream K) → Hop → List (Option ℕ) → ℕ → Option ℕ → Type 0
StreamToldFor {K} α rack table hop late i r =
    (q1 : Stream K → ℕ) → Late hop rack q1 table late → HoldsAt (λ s. DelayAt α rack table hop q1 s r) table i

abbrev pub HopToldFor : {K : Type 0} → (K → ℕ → ℕ) → Rack → List (Stream K) → Hop → List (Option ℕ) → Result (List ℕ) FigureFault → Type 0
HopToldFor {K} α rack table hop late r = (q1 : Stream K → ℕ) → Late hop rack q1 table late → HopTold α rack table hop q1 r

-- a delay is at most the horizon
abbrev pub Near : Option ℕ → Type 0
Near (Some q) = q ≤ horizon
Near None = Unit {0}

abbrev pub AllNear : Result (List ℕ) FigureFault → Type 0
AllNear (Ok figures) = (i : ℕ) → slice_index figures i ≤ horizon
AllNear (Err fault) = Unit {0}
