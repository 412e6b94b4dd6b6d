-- The records of a plan file, one after the other: each has its length in two bytes, and then so many bytes.
use Rattle.std.specs.Prelude.{◌≡◌, ℕ, ◌+◌, ◌/◌, ◌%◌, ◌<◌, cond, List, [], ◌∷◌, ◌++◌, length, take, drop, nat_le}
use Rattle.wire.specs.declared.faults.FileFault.{FileFault}
use Rattle.wire.specs.declared.faults.FileFault.TheVariants.{CutShort}
use Rattle.wire.specs.Bytes.{be}

-- what stands at a place: nothing more, a record that is cut short, or a record, its bytes, and what follows it
pub data Step : Type 0 where
  end : Step
  cut : ℕ → Step
  piece : ℕ → List ℕ → List ℕ → Step

abbrev pub step_of : ℕ → List ℕ → Step
step_of at [] = end
step_of at (a ∷ []) = cut at
step_of at (a ∷ b ∷ rest) =
    cond (nat_le (be (a ∷ b ∷ [])) (length rest))
    (piece at (take (be (a ∷ b ∷ [])) rest) (drop (be (a ∷ b ∷ [])) rest))
    (cut at)

-- A step of a walker that stood at a place, before these bytes, and now stands at `next`, before those left.

-- nothing is left, and it stays
pub record Ended (at : ℕ) (bytes : List ℕ) (next : ℕ) (left : List ℕ) : Type 0 where
  pub step : step_of at bytes ≡ end
  pub stays : next ≡ at
  pub keeps : left ≡ bytes

-- a record is cut short, and it stays
pub record CutOff (at : ℕ) (bytes : List ℕ) (fault : FileFault) (next : ℕ) (left : List ℕ) : Type 0 where
  pub step : step_of at bytes ≡ cut at
  pub told : fault ≡ CutShort at
  pub stays : next ≡ at
  pub keeps : left ≡ bytes

-- it met a record, and stands behind it
pub record Met (at : ℕ) (bytes : List ℕ) (place : ℕ) (front : List ℕ) (next : ℕ) (left : List ℕ) : Type 0 where
  pub step : step_of at bytes ≡ piece place front left
  pub goes : next ≡ place + 2 + length front

-- Records that are joined, and joined bytes that are cut again. A record goes with its place.

-- a record as a file has it: its length in two bytes, and then its bytes
abbrev pub framed : List ℕ → List ℕ
framed bytes = length bytes / 256 ∷ length bytes % 256 ∷ bytes

abbrev pub joined : List (ℕ × List ℕ) → List ℕ
joined [] = []
joined (r ∷ rs) = framed r.1 ++ joined rs

-- the first record stands at this place, and each further one where the one before it ends
abbrev pub PlacedFrom : ℕ → List (ℕ × List ℕ) → Type 0
PlacedFrom at [] = Unit {0}
PlacedFrom at (r ∷ rs) = (r.0 ≡ at) × PlacedFrom (at + 2 + length r.1) rs

-- a walk from this place over these bytes meets these records, and then the end
abbrev pub Walk : ℕ → List ℕ → List (ℕ × List ℕ) → Type 0
Walk at bytes [] = step_of at bytes ≡ end
Walk at bytes (r ∷ rs) = (left : List ℕ) × (step_of at bytes ≡ piece r.0 r.1 left) × Walk (r.0 + 2 + length r.1) left rs

abbrev pub AllBytes : List ℕ → Type 0
AllBytes [] = Unit {0}
AllBytes (b ∷ bs) = (b < 256) × AllBytes bs

-- each record is bytes, as many as two bytes can tell
abbrev pub AllFit : List (ℕ × List ℕ) → Type 0
AllFit [] = Unit {0}
AllFit (r ∷ rs) = (length r.1 < 65536) × AllBytes r.1 × AllFit rs

-- walking and joining undo each other
pub record WalkJoins : Type 0 where
  -- what a walk met, joined again, is what it walked over
  pub back : (at : ℕ) (bytes : List ℕ) (records : List (ℕ × List ℕ)) → AllBytes bytes → Walk at bytes records → bytes ≡ joined records
  -- it met the records at the places that they have there, and none that a file cannot hold
  pub places : (at : ℕ) (bytes : List ℕ) (records : List (ℕ × List ℕ)) → Walk at bytes records → PlacedFrom at records
  pub fit : (at : ℕ) (bytes : List ℕ) (records : List (ℕ × List ℕ)) → AllBytes bytes → Walk at bytes records → AllFit records
  -- any records that fit are joined to bytes, and a walk over these meets those records
  pub bytes : (records : List (ℕ × List ℕ)) → AllFit records → AllBytes (joined records)
  pub forth : (at : ℕ) (records : List (ℕ × List ℕ)) → PlacedFrom at records → Walk at (joined records) records
  -- and no others
  pub alone : (at : ℕ) (bytes : List ℕ) (records others : List (ℕ × List ℕ)) → Walk at bytes records → Walk at bytes others → records ≡ others
