-- The text of a stream's figures, and of a fault.
use Rattle.std.specs.Prelude.{ℕ, List, ◌++◌, codes}
use Rattle.std.specs.Fmt.{decimal}
use Rattle.figures.specs.declared.delays.StreamFigures.{StreamFigures}
use Rattle.figures.specs.declared.faults.FigureFault.{FigureFault}
use Rattle.figures.specs.Faults.{refusal, party}

abbrev pub figures_text : StreamFigures → List ℕ
figures_text figures =
    codes "q1 " ++ decimal figures.q1 ++ codes " q2 " ++ decimal figures.q2 ++ codes " total " ++ decimal figures.total

-- its number, and whom it names
abbrev pub fault_text : FigureFault → List ℕ
fault_text fault = codes "no " ++ decimal (refusal fault) ++ codes " " ++ decimal (party fault)
