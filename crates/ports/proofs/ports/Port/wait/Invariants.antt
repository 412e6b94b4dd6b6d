use Rattle.std.proofs.Common.{◌+◌, ◌-◌}
use Rattle.ports.specs.Limits.{horizon}
use Rattle.ports.specs.Loads.{Below}
use Rattle.ports.specs.Port.{ahead}
use Rattle.ports.proofs.ports.Port.wait.Given as goal

abbrev pub invariant-loop-w : goal.invariant-loop-w
invariant-loop-w g l = Below (ahead l.self.cell_time (g.L.Load.load l.self.load) l.index) horizon l.w

abbrev pub decreases-loop-w : goal.decreases-loop-w
decreases-loop-w g l = horizon + 1 - l.w
