use Rattle.records.proofs.Asked.{stream_asked}
use Rattle.records.proofs.Requests.{state}
use Rattle.records.proofs.records.Records.stream_figures.Goals as goal

pub returns : goal.returns
returns g c =
    let net = c.args.self.now in
    let same = c.as_table-table.ensures in
    stream_asked g.K.Arrival.alpha (state net.rack net.table.memory.now net.table.len) _ _ same.rack same.streams c.args.number c.in_ok-place.ensures.0 c.in_ok-delays.delays c.in_ok-delays.ensures c.in_ok-place.place c.in_ok-place.ensures.1 c.in-Some.figures c.in-Some.ensures
