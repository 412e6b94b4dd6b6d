-- The number of each fault of the figures, and the stream or line that it names.
use Rattle.std.specs.Prelude.{ℕ}
use Rattle.figures.specs.declared.faults.FigureFault.{FigureFault}
use Rattle.figures.specs.declared.faults.FigureFault.TheVariants.{NoDelay, NoNeed}

abbrev pub refusal : FigureFault → ℕ
refusal (NoDelay stream) = 27
refusal (NoNeed line) = 29

abbrev pub party : FigureFault → ℕ
party (NoDelay stream) = stream
party (NoNeed line) = line
