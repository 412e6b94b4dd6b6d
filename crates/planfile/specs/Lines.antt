-- The lines that tell of records.
use Rattle.std.specs.Prelude.{ℕ, Bool, nat_le}
use Rattle.listing.specs.declared.entries.Entry.{Entry}
use Rattle.listing.specs.declared.entries.Entry.TheVariants.{Refused, Stopped}
use Rattle.wire.specs.declared.faults.FileFault.{FileFault}
use Rattle.wire.specs.Faults.{refusal, party, place}

-- refusals up to this number are faults of the input, at which reading stops; the others are faults of the state
abbrev pub last_of_input : ℕ
last_of_input = 7

abbrev pub of_input : FileFault → Bool
of_input fault = nat_le (refusal fault) last_of_input

abbrev pub stop_line : FileFault → Entry
stop_line fault = Stopped (refusal fault) (place fault)

abbrev pub refused_line : FileFault → Entry
refused_line fault = Refused (refusal fault) (party fault) (place fault)
