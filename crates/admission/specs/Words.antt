-- What `Display` writes of a fault.
use Rattle.std.specs.Prelude.{ℕ, List, ◌++◌, codes, decimal}
use Rattle.admission.specs.declared.faults.TableFault.{TableFault}
use Rattle.admission.specs.Faults.{refusal, party}

-- that a call is refused, the number of its refusal, and the stream or line that it names
abbrev pub fault_text : TableFault → List ℕ
fault_text fault = codes "no " ++ decimal (refusal fault) ++ codes " " ++ decimal (party fault)
