-- What the records of a network stand for, and what each call on them answers and leaves.
use Rattle.std.specs.Prelude.{◌≡◌, ℕ, ◌-◌, Bool, true, false, cond, not, ◌&&◌, ◌⊎◌, List, [], ◌∷◌, ◌++◌, length, get_or, take, drop, replicate, Some, None, Ok, Err, Option, Result, nat_le, nat_lt, slice_index_or, slice_set}
use Rattle.ports.specs.Limits.{longest_cell}
use Rattle.figures.specs.declared.delays.Delays.{Delays as Listing}
use Rattle.figures.specs.declared.delays.StreamFigures.{StreamFigures}
use Rattle.figures.specs.declared.faults.FigureFault.{FigureFault}
use Rattle.figures.specs.declared.racks.Line.{Line}
use Rattle.figures.specs.declared.racks.Rack.{Rack}
use Rattle.figures.specs.declared.streams.Stream.{Stream}
use Rattle.figures.specs.Limits.{longest_propagation}
use Rattle.figures.specs.Racks.{line_at, is_inbound, is_outbound}
use Rattle.figures.specs.Tables.{Delays}
use Rattle.figures.specs.Told.{DelaysAre, DelaysTold, NeedOf, NeedTold, StreamTold}
use Rattle.admission.specs.declared.faults.TableFault.{TableFault}
use Rattle.admission.specs.declared.faults.TableFault.TheVariants.{OutsideLimits, LineTaken, NoLine, StreamTaken, PriorityTaken, TableFull, NoStream, Figure}
use Rattle.admission.specs.Checks.{CheckTold}
use Rattle.records.specs.declared.lines.LineFigures.{LineFigures}
use Rattle.admission.specs.Fields.{fields_within, within}
use Rattle.admission.specs.Limits.{last_stream, last_line, most_places}
use Rattle.records.specs.Lists.{number_at, priority_at, filed, withdrawn}

-- the rack, the table of its streams, and how many the table has room for
pub record State (K : Type 0) : Type 0 where
  pub rack : Rack
  pub streams : List (Stream K)
  pub room : ℕ

abbrev pub all_within : {K : Type 0} → List (Stream K) → Bool
all_within [] = true
all_within (s ∷ ss) = fields_within s && all_within ss

-- the first test that fails refuses, by its fault
abbrev pub refused_unless : Bool → TableFault → Option TableFault → Option TableFault
refused_unless test fault rest = cond test rest (Some fault)

-- why a request is refused before its table is checked
abbrev pub unfiled : {K : Type 0} → State K → Stream K → Option TableFault
unfiled st s =
    refused_unless (fields_within s) OutsideLimits
    (refused_unless (is_inbound (line_at st.rack s.inbound)) (NoLine s.inbound)
    (refused_unless (is_outbound (line_at st.rack s.outbound)) (NoLine s.outbound)
    (refused_unless (nat_le (length st.streams) (number_at s.number st.streams)) (StreamTaken s.number)
    (refused_unless (nat_le (length st.streams) (priority_at s.priority st.streams)) (PriorityTaken (get_or st.streams (priority_at s.priority st.streams) s).number)
    (refused_unless (nat_lt (length st.streams) st.room) (TableFull s.number) None)))))

-- why a call that names a stream is refused
abbrev pub unknown_stream : {K : Type 0} → State K → ℕ → Option TableFault
unknown_stream st n =
    refused_unless (within 1 n last_stream) OutsideLimits
    (refused_unless (nat_lt (number_at n st.streams) (length st.streams)) (NoStream n) None)

abbrev pub is_there : Option Line → Bool
is_there (Some line) = true
is_there None = false

-- why a call that names a line is refused
abbrev pub unknown_line : {K : Type 0} → State K → ℕ → Option TableFault
unknown_line st l =
    refused_unless (within 1 l last_line) OutsideLimits (refused_unless (is_there (line_at st.rack l)) (NoLine l) None)

abbrev pub unplaced : {K : Type 0} → State K → ℕ → ℕ → Option TableFault
unplaced st l p =
    refused_unless (within 1 l last_line && within 1 p most_places) OutsideLimits (refused_unless (is_there (line_at st.rack l)) (NoLine l) None)

-- each field of a new line keeps its limits
abbrev pub line_within : Line → Bool
line_within line =
    within 1 line.cell_time longest_cell && (nat_le line.propagation longest_propagation && within 1 line.places most_places)

-- why a draft refuses a line
abbrev pub unlined : Rack → ℕ → Line → Option TableFault
unlined rack l line =
    refused_unless (within 1 l last_line && line_within line) OutsideLimits
    (refused_unless (not (is_there (line_at rack l))) (LineTaken l) None)

-- the rack with one line more, and a rack that has none yet
abbrev pub line_set : Rack → ℕ → Line → Rack
line_set rack l line = record { hub = rack.hub; lines = slice_set rack.lines (l - 1) (Some line) }

abbrev pub bare_rack : ℕ → ℕ → Rack
bare_rack m M = record { hub = record { least = m; most = M }; lines = replicate 16 None }

-- the line with other places, the rack with that line
abbrev pub with_places : ℕ → Option Line → Option Line
with_places p (Some line) = Some (record { side = line.side; cell_time = line.cell_time; propagation = line.propagation; places = p })
with_places p None = None

abbrev pub places_set : Rack → ℕ → ℕ → Rack
places_set rack l p = record { hub = rack.hub; lines = slice_set rack.lines (l - 1) (with_places p (slice_index_or rack.lines (l - 1) None)) }

-- the answer to a call that is refused, or not, and the state that it leaves
abbrev pub verdict : Option TableFault → Result (Unit {0}) TableFault
verdict None = Ok tt
verdict (Some fault) = Err fault

abbrev pub unless : {X : Type 0} → Option TableFault → X → X → X
unless None new old = new
unless (Some fault) new old = old

-- the new state where the check passes, else the old one
abbrev pub if_passed : {X : Type 0} → Result (Unit {0}) TableFault → X → X → X
if_passed (Ok x) new old = new
if_passed (Err fault) new old = old

module _ {K : Type 0} (α : K → ℕ → ℕ) (st : State K) where
  -- a call that changes the rack or the table: refused at once, or tried on the new state, which stays if it passes
  abbrev pub Tried : Option TableFault → State K → Result (Unit {0}) TableFault → State K → Type 0
  Tried (Some fault) new r st' = (r ≡ Err fault) × (st' ≡ st)
  Tried None new r st' = CheckTold α new.rack new.streams r × (st' ≡ if_passed r new st)

  abbrev pub Requested : Stream K → Result (Unit {0}) TableFault → State K → Type 0
  Requested s = Tried (unfiled st s) (record { rack = st.rack; streams = filed s st.streams; room = st.room })

  abbrev pub PlacesSet : ℕ → ℕ → Result (Unit {0}) TableFault → State K → Type 0
  PlacesSet l p = Tried (unplaced st l p) (record { rack = places_set st.rack l p; streams = st.streams; room = st.room })

  -- a withdrawal is never tried: it is refused only where there is no such stream
  abbrev pub Withdrawn : ℕ → Result (Unit {0}) TableFault → State K → Type 0
  Withdrawn n r st' =
      (r ≡ verdict (unknown_stream st n)) × (st' ≡ unless (unknown_stream st n) (record { rack = st.rack; streams = withdrawn n st.streams; room = st.room }) st)

  -- the figures of the stream at a place, by the delays of the table; or the fault that the table has no delays
  abbrev pub StreamFigured : ℕ → Result StreamFigures TableFault → Type 0
  StreamFigured i (Ok figures) = (delays : Listing) × DelaysAre α st.rack st.streams delays × StreamTold st.rack st.streams delays i figures
  StreamFigured i (Err fault) = (x : FigureFault) × (fault ≡ Figure x) × DelaysTold α st.rack st.streams (Err x)

  abbrev pub StreamAsked : Option TableFault → ℕ → Result StreamFigures TableFault → Type 0
  StreamAsked (Some fault) n r = r ≡ Err fault
  StreamAsked None n r = StreamFigured (number_at n st.streams) r

  -- what the figure call tells of the stream n
  abbrev pub StreamAnswer : ℕ → Result StreamFigures TableFault → Type 0
  StreamAnswer n = StreamAsked (unknown_stream st n) n

  -- the need and the places of a line that is there; or the fault that it has no need, or the table no delays
  pub record LineFigured (l : ℕ) (figures : LineFigures) : Type 0 where
    pub q1 : Stream K → ℕ
    pub q2 : Stream K → ℕ
    pub delays : Delays α st.rack st.streams q1 q2
    pub line : Line
    pub there : line_at st.rack l ≡ Some line
    pub need_is : NeedOf α st.rack st.streams q1 l (Some line) (Some figures.need)
    pub places_are : figures.places ≡ line.places

  pub record LineFigureless (l : ℕ) (fault : FigureFault) : Type 0 where
    pub q1 : Stream K → ℕ
    pub q2 : Stream K → ℕ
    pub delays : Delays α st.rack st.streams q1 q2
    pub never : NeedTold α st.rack st.streams q1 l (Err fault)

  abbrev pub LineAsked : Option TableFault → ℕ → Result LineFigures TableFault → Type 0
  LineAsked (Some fault) l r = r ≡ Err fault
  LineAsked None l (Ok figures) = LineFigured l figures
  LineAsked None l (Err fault) = (x : FigureFault) × (fault ≡ Figure x) × (DelaysTold α st.rack st.streams (Err x) ⊎ LineFigureless l x)

  -- what the figure call tells of the line l
  abbrev pub LineAnswer : ℕ → Result LineFigures TableFault → Type 0
  LineAnswer l = LineAsked (unknown_line st l) l

-- the place of the stream that a call names, or why there is none
abbrev pub Found : {K : Type 0} → State K → ℕ → Result ℕ TableFault → Type 0
Found st n (Ok i) = (unknown_stream st n ≡ None) × (i ≡ number_at n st.streams)
Found st n (Err fault) = unknown_stream st n ≡ Some fault

-- the line that a call names, or why there is none
abbrev pub LineFound : {K : Type 0} → State K → ℕ → Result Line TableFault → Type 0
LineFound st l (Ok line) = (unknown_line st l ≡ None) × (line_at st.rack l ≡ Some line)
LineFound st l (Err fault) = unknown_line st l ≡ Some fault

-- a withdrawn record comes to lie behind the table, and the rest of the memory is as before
abbrev pub MemoryLeft : {K : Type 0} → ℕ → List (Stream K) → ℕ → Result (Unit {0}) TableFault → List (Stream K) → Type 0
MemoryLeft {K} len m n (Ok x) m' =
    (d : Stream K) → m' ≡ withdrawn n (take len m) ++ slice_index_or m (number_at n (take len m)) d ∷ drop len m
MemoryLeft len m n (Err fault) m' = m' ≡ m
