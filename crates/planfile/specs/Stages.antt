-- A plan while its file is read: first a hub, which makes a draft; then the draft takes lines; then, once it is closed, its
-- network takes the calls.
use Rattle.std.specs.Prelude.{◌≡◌, ℕ, Bool, true, false, cond, List, [], Some, None, Ok, Err, Option, Result}
use Rattle.figures.specs.declared.racks.Line.{Line}
use Rattle.figures.specs.declared.racks.Rack.{Rack}
use Rattle.figures.specs.Racks.{hub_kept}
use Rattle.admission.specs.declared.faults.TableFault.{TableFault}
use Rattle.admission.specs.declared.faults.TableFault.TheVariants.{OutsideLimits}
use Rattle.records.specs.States.{State, Requested, Withdrawn, PlacesSet, verdict, unless, if_passed, unlined, line_set, bare_rack}
use Rattle.wire.specs.declared.faults.FileFault.{FileFault}
use Rattle.wire.specs.declared.faults.FileFault.TheVariants.{Misplaced}
use Rattle.wire.specs.declared.records.Record.{Record}
use Rattle.wire.specs.declared.records.Record.TheVariants as said
use Rattle.wire.specs.declared.records.Shape.{Shape}
use Rattle.wire.specs.declared.records.Shape.TheVariants as shapes
use Rattle.wire.specs.Faults.{with_place}
use Rattle.wire.specs.Records.{shape_of, record_of}
use Rattle.planfile.specs.declared.phases.Phase.{Phase}
use Rattle.planfile.specs.declared.phases.Phase.TheVariants.{Opening, Drafting, Running}
use Rattle.planfile.specs.Kinds.{PlanKind, plan_alpha}

pub data Stage : Type 0 where
  opened : Stage
  drafted : Rack → Stage
  networked : State PlanKind → Stage

abbrev pub phase_of : Stage → Phase
phase_of opened = Opening
phase_of (drafted rack) = Drafting
phase_of (networked st) = Running

-- the hub is the first record and no other; lines stand before the draft is closed; the calls stand after the hub
abbrev pub admits : Phase → Shape → Bool
admits phase shapes.Hub = elim phase [ Opening ↦ true | Drafting ↦ false | Running ↦ false ]
admits phase shapes.Line = elim phase [ Opening ↦ false | Drafting ↦ true | Running ↦ false ]
admits phase shapes.Message = elim phase [ Opening ↦ false | Drafting ↦ true | Running ↦ true ]
admits phase shapes.Bucket = elim phase [ Opening ↦ false | Drafting ↦ true | Running ↦ true ]
admits phase shapes.Withdrawal = elim phase [ Opening ↦ false | Drafting ↦ true | Running ↦ true ]
admits phase shapes.Places = elim phase [ Opening ↦ false | Drafting ↦ true | Running ↦ true ]

-- what the record at a place says, where it may stand there: its shape is tried first, then its standing, then its values
abbrev pub read_in : Phase → ℕ → List ℕ → Result (Record PlanKind) FileFault
read_in phase at bytes =
    elim (shape_of at bytes) [
      | Ok shape ↦ cond (admits phase shape) (record_of at bytes) (Err (Misplaced at))
      | Err fault ↦ Err fault
    ]

-- records that are calls on a network
abbrev pub is_call : Record PlanKind → Bool
is_call (said.Hub least most) = false
is_call (said.Line number line) = false
is_call (said.Stream stream) = true
is_call (said.Withdrawal number) = true
is_call (said.Places number places) = true

-- the line of a draft that a record says, if it says one
abbrev pub lined : Result (Record PlanKind) FileFault → Result (Option (ℕ × Line)) FileFault
lined (Ok (said.Hub least most)) = Ok None
lined (Ok (said.Line number line)) = Ok (Some (number, line))
lined (Ok (said.Stream stream)) = Ok None
lined (Ok (said.Withdrawal number)) = Ok None
lined (Ok (said.Places number places)) = Ok None
lined (Err fault) = Err fault

-- the network of a closed draft has an empty table
abbrev pub closed : ℕ → Rack → State PlanKind
closed room rack = record { rack = rack; streams = []; room = room }

-- whether a hub with these switch times is taken
abbrev pub hub_verdict : ℕ → ℕ → Result (Unit {0}) TableFault
hub_verdict least most = cond (hub_kept (record { least = least; most = most })) (Ok tt) (Err OutsideLimits)

-- a record that is a call on a network: its answer, and the network after it
abbrev pub Called : State PlanKind → Record PlanKind → Result (Unit {0}) TableFault → State PlanKind → Type 0
Called st (said.Hub least most) r st' = ⊥
Called st (said.Line number line) r st' = ⊥
Called st (said.Stream stream) r st' = Requested plan_alpha st stream r st'
Called st (said.Withdrawal number) r st' = Withdrawn plan_alpha st number r st'
Called st (said.Places number places) r st' = PlacesSet plan_alpha st number places r st'

abbrev pub OnNetwork : State PlanKind → Record PlanKind → Result (Unit {0}) TableFault → Stage → Type 0
OnNetwork st what r next = (st' : State PlanKind) × Called st what r st' × (next ≡ networked st')

-- a record at a stage: its answer, and the stage after it; `room` is how many streams the table has room for
abbrev pub Did : ℕ → Stage → Record PlanKind → Result (Unit {0}) TableFault → Stage → Type 0
Did room opened (said.Hub least most) r next =
    (r ≡ hub_verdict least most) × (next ≡ if_passed r (drafted (bare_rack least most)) opened)
Did room opened (said.Line number line) r next = ⊥
Did room opened (said.Stream stream) r next = ⊥
Did room opened (said.Withdrawal number) r next = ⊥
Did room opened (said.Places number places) r next = ⊥
Did room (drafted rack) (said.Hub least most) r next = ⊥
Did room (drafted rack) (said.Line number line) r next =
    (r ≡ verdict (unlined rack number line)) × (next ≡ drafted (unless (unlined rack number line) (line_set rack number line) rack))
Did room (drafted rack) (said.Stream stream) r next = OnNetwork (closed room rack) (said.Stream stream) r next
Did room (drafted rack) (said.Withdrawal number) r next = OnNetwork (closed room rack) (said.Withdrawal number) r next
Did room (drafted rack) (said.Places number places) r next = OnNetwork (closed room rack) (said.Places number places) r next
Did room (networked st) what r next = OnNetwork st what r next

abbrev pub Valued : ℕ → Stage → ℕ → Result (Record PlanKind) FileFault → Result (Unit {0}) FileFault → Stage → Type 0
Valued room stage at (Ok what) r next = (v : Result (Unit {0}) TableFault) × Did room stage what v next × (r ≡ with_place at v)
Valued room stage at (Err fault) r next = (r ≡ Err fault) × (next ≡ stage)

-- the record at a place, met at a stage: its answer, and the stage after it
abbrev pub Taken : ℕ → Stage → ℕ → List ℕ → Result (Unit {0}) FileFault → Stage → Type 0
Taken room stage at bytes = Valued room stage at (read_in (phase_of stage) at bytes)

-- the network whose figures are told at the end of the file, which closes a draft; a file without records has none
abbrev pub finished : ℕ → Stage → Option (State PlanKind)
finished room opened = None
finished room (drafted rack) = Some (closed room rack)
finished room (networked st) = Some st
