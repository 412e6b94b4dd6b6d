use Rattle.ports.proofs.Walk.{Walk}
use Rattle.ports.proofs.ports.Port.delay.Given as goal

abbrev pub invariant-loop-index : goal.invariant-loop-index
invariant-loop-index g l =
    Walk l.self.cell_time (g.A.Load.load l.own) (g.L.Load.load l.self.load) l.index l.worst l.from l.early
