use Rattle.std.proofs.Common.{ap, ◌∙◌}
use Rattle.figures.specs.Racks.{cell_time}
use Rattle.figures.proofs.Hopwise.{delay_told}
use Rattle.figures.proofs.traffic.Traffic.delay.Goals as goal

pub returns-clause-told : goal.returns-clause-told
returns-clause-told g c =
    let traffic = c.args.self.now in
    delay_told g.K.Arrival.alpha traffic.rack.now traffic.streams.now c.args.hop traffic.late c.args.place c.index-self-place.result c.port.result.cell_time c.above.result c.delay.result c.requires
    (c.port.ensures.cell_time ∙ ap (cell_time traffic.rack.now) c.line.ensures) c.above.ensures (rw c.port.ensures.load at c.delay.ensures)
