-- The number, the named party, the place and the layer of each fault of a plan file.
use Rattle.std.specs.Prelude.{ℕ, Ok, Err, Result}
use Rattle.admission.specs.declared.faults.Layer.{Layer}
use Rattle.admission.specs.declared.faults.Layer.TheVariants as layers
use Rattle.admission.specs.declared.faults.TableFault.{TableFault}
use Rattle.admission.specs.Faults as table
use Rattle.wire.specs.declared.faults.FileFault.{FileFault}
use Rattle.wire.specs.declared.faults.FileFault.TheVariants.{TooLong, Version, CutShort, Malformed, Misplaced, Table, NoRoom}

abbrev pub refusal : FileFault → ℕ
refusal TooLong = 1
refusal Version = 2
refusal (CutShort at) = 3
refusal (Malformed at) = 4
refusal (Misplaced at) = 5
refusal (Table at fault) = table.refusal fault
refusal NoRoom = 31

abbrev pub party : FileFault → ℕ
party TooLong = 0
party Version = 0
party (CutShort at) = 0
party (Malformed at) = 0
party (Misplaced at) = 0
party (Table at fault) = table.party fault
party NoRoom = 0

-- the place of the record's first length byte
abbrev pub place : FileFault → ℕ
place TooLong = 0
place Version = 0
place (CutShort at) = at
place (Malformed at) = at
place (Misplaced at) = at
place (Table at fault) = at
place NoRoom = 0

abbrev pub layer : FileFault → Layer
layer TooLong = layers.File
layer Version = layers.File
layer (CutShort at) = layers.File
layer (Malformed at) = layers.File
layer (Misplaced at) = layers.File
layer (Table at fault) = table.layer fault
layer NoRoom = layers.File

-- what the table answers to the record at a place, as an answer to the file
abbrev pub with_place : {T : Type 0} → ℕ → Result T TableFault → Result T FileFault
with_place at (Ok value) = Ok value
with_place at (Err fault) = Err (Table at fault)
