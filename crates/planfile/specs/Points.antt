-- How far a file is read: the lines noted by then, the stage of the plan, the place, and the bytes from there on.
use Rattle.std.specs.Prelude.{◌≡◌, ℕ, ◌+◌, ◌*◌, ◌<◌, ◌≤◌, true, cond, List, [], ◌∷◌, ◌++◌, length, Some, None, Ok, Err, Option, Result}
use Rattle.listing.specs.declared.entries.Entry.{Entry}
use Rattle.listing.specs.declared.entries.Entry.TheVariants.{Done}
use Rattle.records.specs.States.{State}
use Rattle.wire.specs.declared.faults.FileFault.{FileFault}
use Rattle.wire.specs.Faults.{place}
use Rattle.wire.specs.Limits.{longest_file}
use Rattle.planfile.specs.declared.journals.Journal.{Journal}
use Rattle.network.specs.Promise.{Promised}
use Rattle.wire.specs.Opening.{opening}
use Rattle.planfile.specs.Figures.{NetworkListed}
use Rattle.planfile.specs.Kinds.{PlanKind, plan_alpha}
use Rattle.planfile.specs.Plans.{PlanListed, PromisedOf}
use Rattle.planfile.specs.Lines.{of_input, stop_line, refused_line}
use Rattle.planfile.specs.Reading.{Read, ReadFrom}
use Rattle.figures.specs.declared.racks.Rack.{Rack}
use Rattle.planfile.specs.Stages.{Stage, Taken, finished}

-- the lines that a journal holds
abbrev pub noted : Journal → List Entry
noted journal = journal.entries.items

-- what the answer to a record leaves to be told of it further up: a fault of the input
abbrev pub onward : Result (Unit {0}) FileFault → Result (Unit {0}) FileFault
onward (Ok x) = Ok tt
onward (Err fault) = cond (of_input fault) (Err fault) (Ok tt)

-- the lines after the answer to the record at a place
abbrev pub with_answer : List Entry → ℕ → Result (Unit {0}) FileFault → List Entry
with_answer lines at (Ok x) = lines ++ Done at ∷ []
with_answer lines at (Err fault) = cond (of_input fault) lines (lines ++ refused_line fault ∷ [])

-- whatever is read from this point on is read from the start of the file, behind the lines noted by then
abbrev pub Reaches : ℕ → List ℕ → List Entry → Stage → ℕ → List ℕ → Type 0
Reaches room file lines stage at left =
    (more : List Entry) (last : Option (State PlanKind)) → Read room stage at left more last → Read room Stage.opened 1 file (lines ++ more) last

-- the first point leads to the second, in every file
abbrev pub Leads : List Entry → Stage → ℕ → List ℕ → ℕ → List Entry → Stage → ℕ → List ℕ → Type 0
Leads lines stage at left room lines' stage' at' left' =
    (file : List ℕ) → Reaches room file lines stage at left → Reaches room file lines' stage' at' left'

-- reading stops somewhere behind the point, by this fault
pub record Stops (lines : List Entry) (stage : Stage) (at : ℕ) (left : List ℕ) (room : ℕ) (lines' : List Entry) (fault : FileFault) : Type 0 where
  pub reads : (file : List ℕ) → Reaches room file lines stage at left → Read room Stage.opened 1 file (lines' ++ stop_line fault ∷ []) None
  pub few : 5 * length lines' < longest_file

-- the file ends somewhere behind the point, at this stage
pub record Ends (lines : List Entry) (stage : Stage) (at : ℕ) (left : List ℕ) (room : ℕ) (lines' : List Entry) (stage' : Stage) : Type 0 where
  pub reads : (file : List ℕ) → Reaches room file lines stage at left → Read room Stage.opened 1 file lines' (finished room stage')
  pub few : 5 * length lines' < longest_file

-- each line stands for a record of at least five bytes, and no file is longer than the longest
pub record Fitting (lines : List Entry) (at : ℕ) (left : List ℕ) : Type 0 where
  pub few : 5 * length lines + 1 ≤ at
  pub short : at + length left ≤ longest_file

-- the record at a place, taken at a stage and noted; or it has a fault of the input, and is not
abbrev pub Took : Stage → List Entry → ℕ → List ℕ → Result (Unit {0}) FileFault → Stage → List Entry → Type 0
Took stage lines at bytes (Ok x) next lines' =
    (room : ℕ) → (answer : Result (Unit {0}) FileFault) × Taken room stage at bytes answer next × (onward answer ≡ Ok tt) × (lines' ≡ with_answer lines at answer)
Took stage lines at bytes (Err fault) next lines' =
    ((room : ℕ) → (left : Stage) × Taken room stage at bytes (Err fault) left) × (of_input fault ≡ true) × (place fault ≡ at) × (lines' ≡ lines)

-- the first record makes a draft with this rack, or is a fault of the input
abbrev pub Opens : ℕ → List ℕ → Result Rack FileFault → Type 0
Opens at bytes (Ok rack) = (room : ℕ) → Taken room Stage.opened at bytes (Ok tt) (Stage.drafted rack)
Opens at bytes (Err fault) =
    ((room : ℕ) → (left : Stage) × Taken room Stage.opened at bytes (Err fault) left) × (of_input fault ≡ true) × (place fault ≡ at)

-- lines of this sort were noted behind the others
abbrev pub Added : (List Entry → Type 0) → List Entry → List Entry → Type 0
Added Sort lines lines' = (more : List Entry) × Sort more × (lines' ≡ lines ++ more)

-- the file is read to its end behind the point, and the figures of the network that it leaves follow
pub record Finishes (lines : List Entry) (stage : Stage) (at : ℕ) (left : List ℕ) (room : ℕ) (lines' : List Entry) : Type 0 where
  pub answers : List Entry
  pub figures : List Entry
  pub st : State PlanKind
  pub reads : (file : List ℕ) → Reaches room file lines stage at left → Read room Stage.opened 1 file answers (Some st)
  pub listed : NetworkListed st figures
  pub promised : Promised plan_alpha st
  pub whole : lines' ≡ answers ++ figures

-- the entries of a file's listing, with the promise for the network whose figures it has
abbrev pub Entered : ℕ → List ℕ → List Entry → Type 0
Entered room bytes lines = (listed : PlanListed room bytes lines) × PromisedOf listed.last

-- a file, read to its end; or to a fault of the input, which is the last line
abbrev pub PlanRead : ℕ → List ℕ → Result (Unit {0}) FileFault → List Entry → Type 0
PlanRead room bytes (Ok x) lines = Entered room bytes lines
PlanRead room bytes (Err fault) lines =
    ReadFrom room (opening bytes) (lines ++ stop_line fault ∷ []) None × (5 * length lines < longest_file)
