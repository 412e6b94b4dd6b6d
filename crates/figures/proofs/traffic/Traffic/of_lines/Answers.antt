use Rattle.std.proofs.Common.{min, ap, arith}
use Rattle.std.proofs.lemmas.List.{drop_more, drop_all}
use Rattle.arrivals.specs.Limits.{longest}
use Rattle.figures.specs.Sums.{lines_load}
use Rattle.figures.proofs.traffic.Traffic.of_lines.Goals as goal

pub loop-line-preserved : goal.loop-line-preserved
loop-line-preserved g c =
    let load = lines_load g.K.Arrival.alpha c.args.self.now.late c.args.self.now.rack.now c.args.self.now.streams.now c.args.outbound (min c.args.window longest) in
    let more = ap load (drop_more c.args.inbound.now c.loop-line.line-index 0 c.loop-line-test.true) in
    (omega (arith, c.of_line-sum.ensures.small), omega (arith, more, c.of_line-sum.ensures.value))

pub returns : goal.returns
returns g c =
    let load = lines_load g.K.Arrival.alpha c.args.self.now.late c.args.self.now.rack.now c.args.self.now.streams.now c.args.outbound (min c.args.window longest) in
    omega (arith, ap load (drop_all c.loop-line.line-index c.args.inbound.now c.loop-line-test.false))
