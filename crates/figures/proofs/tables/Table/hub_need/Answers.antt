use Rattle.std.proofs.Common.{arith}
use Rattle.figures.proofs.ByPriority.{hub_late}
use Rattle.figures.proofs.Hopwise.{hub_sum_same}
use Rattle.figures.proofs.TableFacts.{few, falls}
use Rattle.figures.proofs.Transport.{need_same}
use Rattle.figures.proofs.tables.Table.hub_need.Goals as goal

pub returns : goal.returns
returns g c q1 listed =
    let table = c.args.self.now in
    let second = c.late-traffic.ensures in
    let α = g.K.Arrival.alpha in
    let rack = table.rack.now in
    let streams = table.streams.now in
    let late = hub_late α rack streams (falls rack streams table.kept) c.args.delays.now.q1 c.late-traffic.result.late
    (λ i h. second.late i (omega (arith, h, few rack streams table.kept))) q1 listed in
    need_same _ _ (hub_sum_same α rack streams q1 c.late-traffic.result.late late c.args.number)
    (rw (c.port.ensures.cell_time, c.port.ensures.load, second.ours.0, second.ours.1) at c.need.ensures)
