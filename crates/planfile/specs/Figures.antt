-- The lines that tell the figures of a network: its streams in table order, then its lines by rising number.
use Rattle.std.specs.Prelude.{◌≡◌, ℕ, ◌+◌, List, [], ◌∷◌, ◌++◌, Some, None, Ok, Option}
use Rattle.figures.specs.declared.delays.StreamFigures.{StreamFigures}
use Rattle.figures.specs.declared.racks.Line.{Line}
use Rattle.figures.specs.declared.streams.Stream.{Stream}
use Rattle.listing.specs.declared.entries.Entry.{Entry}
use Rattle.records.specs.declared.lines.LineFigures.{LineFigures}
use Rattle.records.specs.States.{State, StreamAnswer, LineAnswer}
use Rattle.planfile.specs.Kinds.{PlanKind, plan_alpha}

module _ (st : State PlanKind) where
  -- a line for each of these streams, with what the figure call tells of it
  pub data StreamsListed : List (Stream PlanKind) → List Entry → Type 0 where
    no_stream : StreamsListed [] []
    stream : {streams : List (Stream PlanKind)} {lines : List Entry} (s : Stream PlanKind) (told : StreamFigures)
        → StreamAnswer plan_alpha st s.number (Ok told) → StreamsListed streams lines
        → StreamsListed (s ∷ streams) (Entry.Stream s.number told.q1 told.q2 told.total ∷ lines)

  -- the same for the lines that are there, numbered from `l` on
  pub data LinesListed : ℕ → List (Option Line) → List Entry → Type 0 where
    no_line : {l : ℕ} → LinesListed l [] []
    absent : {l : ℕ} {slots : List (Option Line)} {lines : List Entry} → LinesListed (l + 1) slots lines → LinesListed l (None ∷ slots) lines
    present : {l : ℕ} {slots : List (Option Line)} {lines : List Entry} (line : Line) (told : LineFigures)
        → LineAnswer plan_alpha st l (Ok told) → LinesListed (l + 1) slots lines
        → LinesListed l (Some line ∷ slots) (Entry.Line l told.need told.places ∷ lines)

pub record NetworkListed (st : State PlanKind) (lines : List Entry) : Type 0 where
  pub of_streams : List Entry
  pub of_lines : List Entry
  pub streams_listed : StreamsListed st st.streams of_streams
  pub lines_listed : LinesListed st 1 st.rack.lines of_lines
  pub in_order : lines ≡ of_streams ++ of_lines

abbrev pub FiguresListed : Option (State PlanKind) → List Entry → Type 0
FiguresListed (Some st) lines = NetworkListed st lines
FiguresListed None lines = lines ≡ []
