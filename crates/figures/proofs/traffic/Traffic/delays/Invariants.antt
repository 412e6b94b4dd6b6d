use Rattle.figures.proofs.HopScan.{Scanned}
use Rattle.figures.proofs.traffic.Traffic.delays.Given as goal

abbrev pub invariant-loop-place : goal.invariant-loop-place
invariant-loop-place g l = Scanned g.K.Arrival.alpha l.self.rack.now l.self.streams.now l.hop l.self.late l.place l.delays
