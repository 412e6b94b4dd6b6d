-- A plan file has one listing.
use Rattle.std.proofs.Common.{◌≡◌, ℕ, ◌+◌, Bool, true, false, List, [], ◌∷◌, ◌++◌, length, Some, None, Ok, Err, Option, Result, sym, refl, ap, ◌∙◌, subst, ap₂}
use Rattle.figures.specs.declared.racks.Line.{Line}
use Rattle.figures.specs.declared.streams.Stream.{Stream}
use Rattle.listing.specs.declared.entries.Entry.{Entry}
use Rattle.listing.specs.declared.entries.Entry.TheVariants.{Done}
use Rattle.records.specs.States.{State}
use Rattle.wire.specs.declared.faults.FileFault.{FileFault}
use Rattle.wire.specs.declared.faults.FileFault.TheVariants.{CutShort}
use Rattle.wire.specs.Opening.{opening}
use Rattle.wire.specs.Walks.{Step, end, cut, piece, step_of}
use Rattle.planfile.specs.Figures.{FiguresListed, LinesListed, StreamsListed, absent, no_line, no_stream, present, stream}
use Rattle.planfile.specs.Kinds.{PlanKind, plan_alpha}
use Rattle.planfile.specs.Lines.{of_input, stop_line, refused_line}
use Rattle.planfile.specs.Plans.{OneListing}
use Rattle.planfile.specs.Reading.{Read, ReadFrom, cut_off, done, ended, refused, stopped}
use Rattle.planfile.specs.Stages.{Stage, Taken, finished}
use Rattle.planfile.proofs.OneAnswer.{given_same, line_told_one, stream_told_one, taken_one}

-- what a reading does first, by what stands at its place
module _ (room at : ℕ) (lines : List Entry) (last : Option (State PlanKind)) where
  -- after this line it goes on
  abbrev GoesOn : Entry → Stage → List ℕ → List ℕ → Type 0
  GoesOn line next front left = (rest : List Entry) × (lines ≡ line ∷ rest) × Read room next (at + 2 + length front) left rest last

  -- with this line it stops
  abbrev StopsWith : Entry → Type 0
  StopsWith line = (lines ≡ line ∷ []) × (last ≡ None)

  -- a fault of the input stops it
  abbrev AfterFault : Bool → FileFault → Stage → List ℕ → List ℕ → Type 0
  AfterFault true fault next front left = StopsWith (stop_line fault)
  AfterFault false fault next front left = GoesOn (refused_line fault) next front left

  abbrev AfterAnswer : Result (Unit {0}) FileFault → Stage → List ℕ → List ℕ → Type 0
  AfterAnswer (Ok x) next front left = GoesOn (Done at) next front left
  AfterAnswer (Err fault) next front left = AfterFault (of_input fault) fault next front left

  -- a record has an answer, which says how it goes on
  abbrev Turn : Stage → Step → Type 0
  Turn stage end = (lines ≡ []) × (last ≡ finished room stage)
  Turn stage (cut place) = StopsWith (stop_line (CutShort at))
  Turn stage (piece place front left) =
      (r : Result (Unit {0}) FileFault) × ((next : Stage) × Taken room stage at front r next × AfterAnswer r next front left)

turn : (room : ℕ) {stage : Stage} {at : ℕ} {bytes : List ℕ} {lines : List Entry} {last : Option (State PlanKind)}
    → Read room stage at bytes lines last → Turn room at lines last stage (step_of at bytes)
turn room (ended step is) = rw step (refl, is)
turn room (cut_off step is) = rw step (refl, is)
turn room (stopped front left fault next step taken input is) = rw step (Err fault, (next, taken, rw input (refl, is)))
turn room (refused front left fault next step taken state rest) =
    rw step (Err fault, (next, taken, rw state (_, refl, rest)))
turn room (done front left next step taken rest) = rw step (Ok tt, (next, taken, (_, refl, rest)))

-- another reading that meets the same record goes on by the same answer
met : (room : ℕ) {stage : Stage} {at : ℕ} {bytes : List ℕ} {lines : List Entry} {last : Option (State PlanKind)}
    (front left : List ℕ) (r : Result (Unit {0}) FileFault) (next : Stage)
    → step_of at bytes ≡ piece at front left → Taken room stage at front r next
    → Read room stage at bytes lines last → AfterAnswer room at lines last r next front left
met room {stage} {at} front left r next step taken other =
    let t = rw step at (turn room other) in
    let one = taken_one room stage at r t.0 next t.1.0 front taken t.1.1 in
    rw one.0 (rw one.1 t.1.2)

-- two readings that agree behind a line agree with it
behind : {line : Entry} {rest rest' lines' : List Entry} {last last' : Option (State PlanKind)}
    → (rest ≡ rest') × (last ≡ last') → lines' ≡ line ∷ rest' → (line ∷ rest ≡ lines') × (last ≡ last')
behind {line} one is = (ap (λ ls. line ∷ ls) one.0 ∙ sym is, one.1)

pub read_one : (room : ℕ) {stage : Stage} {at : ℕ} {bytes : List ℕ} {lines : List Entry} {last : Option (State PlanKind)}
    → Read room stage at bytes lines last
    → {lines' : List Entry} {last' : Option (State PlanKind)} → Read room stage at bytes lines' last'
    → (lines ≡ lines') × (last ≡ last')
read_one room (ended step is) other = given_same (refl, is) (rw step at (turn room other))
read_one room (cut_off step is) other = given_same (refl, is) (rw step at (turn room other))
read_one room (stopped front left fault next step taken input is) other =
    given_same (refl, is) (rw input at (met room front left (Err fault) next step taken other))
read_one room (refused front left fault next step taken state rest) other =
    let on = rw state at (met room front left (Err fault) next step taken other) in
    behind (read_one room rest on.2) on.1
read_one room (done front left next step taken rest) other =
    let on = met room front left (Ok tt) next step taken other in
    behind (read_one room rest on.2) on.1

read_from_one : (room : ℕ) (from : Result (List ℕ) FileFault)
    {lines lines' : List Entry} {last last' : Option (State PlanKind)}
    → ReadFrom room from lines last → ReadFrom room from lines' last' → (lines ≡ lines') × (last ≡ last')
read_from_one room (Ok rest) x y = read_one room x y
read_from_one room (Err fault) x y = given_same x y

module _ (st : State PlanKind) where
  streams_one : {streams : List (Stream PlanKind)} {lines lines' : List Entry}
      → StreamsListed st streams lines → StreamsListed st streams lines' → lines ≡ lines'
  streams_one no_stream no_stream = refl
  streams_one (stream s told answer rest) (stream _ told' answer' rest') =
      ap₂ (λ t lines. Entry.Stream s.number t.q1 t.q2 t.total ∷ lines)
      (stream_told_one plan_alpha st s.number told told' answer answer') (streams_one rest rest')

  lines_one : {l : ℕ} {slots : List (Option Line)} {lines lines' : List Entry}
      → LinesListed st l slots lines → LinesListed st l slots lines' → lines ≡ lines'
  lines_one no_line no_line = refl
  lines_one (absent rest) (absent rest') = lines_one rest rest'
  lines_one (present {l = l} line told answer rest) (present _ told' answer' rest') =
      ap₂ (λ t lines. Entry.Line l t.need t.places ∷ lines)
      (line_told_one plan_alpha st l told told' answer answer') (lines_one rest rest')

figures_one : (last : Option (State PlanKind)) {lines lines' : List Entry}
    → FiguresListed last lines → FiguresListed last lines' → lines ≡ lines'
figures_one (Some st) x y =
    let of_streams = streams_one st x.streams_listed y.streams_listed in
    let of_lines = lines_one st x.lines_listed y.lines_listed in
    x.in_order ∙ ap₂ ◌++◌ of_streams of_lines ∙ sym y.in_order
figures_one None x y = x ∙ sym y

pub one_listing : OneListing
one_listing room bytes entries others x y =
    let read = read_from_one room (opening bytes) x.read y.read in
    let told = figures_one x.last x.told (subst (λ o. FiguresListed o y.figures) (sym read.1) y.told) in
    x.whole ∙ ap₂ ◌++◌ read.0 told ∙ sym y.whole
