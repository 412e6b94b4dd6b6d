-- The number of each refusal of a kind's numbers. It names no stream and no line.
use Rattle.std.specs.Prelude.{ℕ}
use Rattle.arrivals.specs.declared.faults.KindFault.{KindFault}
use Rattle.arrivals.specs.declared.faults.KindFault.TheVariants.{OutsideLimits, Overfull}

abbrev pub refusal : KindFault → ℕ
refusal OutsideLimits = 6
refusal Overfull = 7
