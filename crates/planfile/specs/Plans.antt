-- What a plan file gives: a listing, and the promise for the network whose figures it has.
use Rattle.std.specs.Prelude.{◌≡◌, ℕ, ◌<◌, ◌≤◌, List, ◌++◌, length, Some, None, Ok, Err, Option, Result}
use Rattle.listing.specs.declared.entries.Entry.{Entry}
use Rattle.listing.specs.Laid.{laid}
use Rattle.listing.specs.Text.{listing_text}
use Rattle.network.specs.Promise.{Promised}
use Rattle.records.specs.States.{State}
use Rattle.wire.specs.declared.faults.FileFault.{FileFault}
use Rattle.wire.specs.declared.faults.FileFault.TheVariants.{NoRoom}
use Rattle.wire.specs.Opening.{opening}
use Rattle.planfile.specs.Figures.{FiguresListed}
use Rattle.planfile.specs.Kinds.{PlanKind, plan_alpha}
use Rattle.planfile.specs.Reading.{ReadFrom}

-- the entries of the listing of a file: a line for each record, then the figures of the network that the file leaves
pub record PlanListed (room : ℕ) (bytes : List ℕ) (entries : List Entry) : Type 0 where
  pub answers : List Entry
  pub figures : List Entry
  pub last : Option (State PlanKind)
  pub read : ReadFrom room (opening bytes) answers last
  pub told : FiguresListed last figures
  pub whole : entries ≡ answers ++ figures

-- the promise holds of the network whose figures are listed
abbrev pub PromisedOf : Option (State PlanKind) → Type 0
PromisedOf (Some st) = Promised plan_alpha st
PromisedOf None = Unit {0}

-- the text stands at the start of the buffer, its length is told and the rest is as before; or it is longer than the
-- buffer, the fault says so, and the buffer is as before
abbrev pub Printed : List ℕ → List ℕ → Result ℕ FileFault → List ℕ → Type 0
Printed before text (Ok n) after = (n ≡ length text) × (n ≤ length before) × (after ≡ laid text before)
Printed before text (Err fault) after = (fault ≡ NoRoom) × (length before < length text) × (after ≡ before)

pub record PlanTold (room : ℕ) (bytes before : List ℕ) (r : Result ℕ FileFault) (after : List ℕ) : Type 0 where
  pub entries : List Entry
  pub listed : PlanListed room bytes entries
  pub promised : PromisedOf listed.last
  pub printed : Printed before (listing_text entries) r after

-- no listing has more bytes
abbrev pub longest_listing : ℕ
longest_listing = 151110

-- a file has one listing
abbrev pub OneListing : Type 0
OneListing =
    (room : ℕ) (bytes : List ℕ) (entries others : List Entry) → PlanListed room bytes entries → PlanListed room bytes others → entries ≡ others
