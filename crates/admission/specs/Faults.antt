-- The number, the named party and the layer of each fault of a draft or a network.
use Rattle.std.specs.Prelude.{ℕ}
use Rattle.arrivals.specs.declared.faults.KindFault.{KindFault}
use Rattle.arrivals.specs.declared.faults.KindFault.TheVariants as kind
use Rattle.figures.specs.Faults as figure
use Rattle.admission.specs.declared.faults.Layer.{Layer}
use Rattle.admission.specs.declared.faults.Layer.TheVariants as layers
use Rattle.admission.specs.declared.faults.TableFault.{TableFault}
use Rattle.admission.specs.declared.faults.TableFault.TheVariants.{OutsideLimits, Overfull, LineTaken, NoLine, StreamTaken, PriorityTaken, TableFull, NoStream, Figure, Late, Cramped}

abbrev pub refusal : TableFault → ℕ
refusal OutsideLimits = 6
refusal Overfull = 7
refusal (LineTaken line) = 21
refusal (NoLine line) = 22
refusal (StreamTaken stream) = 23
refusal (PriorityTaken holder) = 24
refusal (TableFull newcomer) = 25
refusal (NoStream stream) = 26
refusal (Figure fault) = figure.refusal fault
refusal (Late stream) = 28
refusal (Cramped line) = 30

abbrev pub party : TableFault → ℕ
party OutsideLimits = 0
party Overfull = 0
party (LineTaken line) = line
party (NoLine line) = line
party (StreamTaken stream) = stream
party (PriorityTaken holder) = holder
party (TableFull newcomer) = newcomer
party (NoStream stream) = stream
party (Figure fault) = figure.party fault
party (Late stream) = stream
party (Cramped line) = line

abbrev pub layer : TableFault → Layer
layer OutsideLimits = layers.Table
layer Overfull = layers.Table
layer (LineTaken line) = layers.Table
layer (NoLine line) = layers.Table
layer (StreamTaken stream) = layers.Table
layer (PriorityTaken holder) = layers.Table
layer (TableFull newcomer) = layers.Table
layer (NoStream stream) = layers.Table
layer (Figure fault) = layers.Figure
layer (Late stream) = layers.Table
layer (Cramped line) = layers.Table

-- a fault of a kind's numbers, as a fault of the call that makes the kind
abbrev pub of_kind : KindFault → TableFault
of_kind kind.OutsideLimits = OutsideLimits
of_kind kind.Overfull = Overfull
