use Rattle.std.proofs.Common.{◌-◌}
use Rattle.ports.proofs.Busy.{Scanned}
use Rattle.ports.proofs.ports.Port.most_held.Given as goal

abbrev pub invariant-loop-u : goal.invariant-loop-u
invariant-loop-u g l = Scanned l.self.cell_time (g.L.Load.load l.self.load) l.until l.u l.most

abbrev pub decreases-loop-u : goal.decreases-loop-u
decreases-loop-u g l = l.until - l.u
