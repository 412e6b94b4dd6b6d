use Rattle.std.proofs.Common.{replicate, None}
use Rattle.figures.specs.declared.groups.Group.TheVariants.{From}
use Rattle.figures.specs.declared.hops.Hop.TheVariants.{Probe}
use Rattle.figures.proofs.ByPriority.{probe_late}
use Rattle.figures.proofs.Hopwise.{group_same}
use Rattle.figures.proofs.TableFacts.{falls}
use Rattle.figures.proofs.Transport.{need_same}
use Rattle.figures.proofs.tables.Table.probe_need.Goals as goal

pub returns : goal.returns
returns g c =
    let table = c.args.self.now in
    let first = c.punctual-traffic.ensures in
    let α = g.K.Arrival.alpha in
    let rack = table.rack.now in
    let streams = table.streams.now in
    need_same _ _
    (group_same α rack Probe (λ _. 0) (replicate 64 None) streams (probe_late α rack streams (falls rack streams table.kept) (λ _. 0)) (From c.args.number))
    (rw (c.port.ensures.cell_time, c.port.ensures.load, first.ours.0, first.ours.1, first.punctual) at c.need.ensures)
