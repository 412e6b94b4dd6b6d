-- The records of a plan file, carried out one after the other, and the line that each gives.
use Rattle.std.specs.Prelude.{◌≡◌, ℕ, ◌+◌, true, false, List, [], ◌∷◌, length, None, Ok, Err, Option, Result}
use Rattle.listing.specs.declared.entries.Entry.{Entry}
use Rattle.listing.specs.declared.entries.Entry.TheVariants.{Done}
use Rattle.records.specs.States.{State}
use Rattle.wire.specs.declared.faults.FileFault.{FileFault}
use Rattle.wire.specs.declared.faults.FileFault.TheVariants.{CutShort}
use Rattle.wire.specs.Walks.{step_of, end, cut, piece}
use Rattle.planfile.specs.Kinds.{PlanKind}
use Rattle.planfile.specs.Lines.{of_input, stop_line, refused_line}
use Rattle.planfile.specs.Stages.{Stage, Taken, finished}

-- From a stage, at a place, before these bytes: the lines that the records give, and the network whose figures follow them,
-- if any do.
pub data Read (room : ℕ) : Stage → ℕ → List ℕ → List Entry → Option (State PlanKind) → Type 0 where
  -- nothing is left
  ended : {stage : Stage} {at : ℕ} {bytes : List ℕ} {last : Option (State PlanKind)}
      → step_of at bytes ≡ end → last ≡ finished room stage → Read room stage at bytes [] last
  -- the file ends within a record
  cut_off : {stage : Stage} {at : ℕ} {bytes : List ℕ} {last : Option (State PlanKind)}
      → step_of at bytes ≡ cut at → last ≡ None → Read room stage at bytes (stop_line (CutShort at) ∷ []) last
  -- a record has a fault of the input: reading stops
  stopped : {stage : Stage} {at : ℕ} {bytes : List ℕ} {last : Option (State PlanKind)} (front left : List ℕ) (fault : FileFault) (next : Stage)
      → step_of at bytes ≡ piece at front left → Taken room stage at front (Err fault) next → of_input fault ≡ true
      → last ≡ None → Read room stage at bytes (stop_line fault ∷ []) last
  -- a record is refused for the state of the plan: reading goes on
  refused : {stage : Stage} {at : ℕ} {bytes : List ℕ} {last : Option (State PlanKind)} {lines : List Entry} (front left : List ℕ) (fault : FileFault) (next : Stage)
      → step_of at bytes ≡ piece at front left → Taken room stage at front (Err fault) next → of_input fault ≡ false
      → Read room next (at + 2 + length front) left lines last → Read room stage at bytes (refused_line fault ∷ lines) last
  -- a record is carried out
  done : {stage : Stage} {at : ℕ} {bytes : List ℕ} {last : Option (State PlanKind)} {lines : List Entry} (front left : List ℕ) (next : Stage)
      → step_of at bytes ≡ piece at front left → Taken room stage at front (Ok tt) next
      → Read room next (at + 2 + length front) left lines last → Read room stage at bytes (Done at ∷ lines) last

-- the same from the start of a file
abbrev pub ReadFrom : ℕ → Result (List ℕ) FileFault → List Entry → Option (State PlanKind) → Type 0
ReadFrom room (Ok rest) lines last = Read room Stage.opened 1 rest lines last
ReadFrom room (Err fault) lines last = (lines ≡ stop_line fault ∷ []) × (last ≡ None)
