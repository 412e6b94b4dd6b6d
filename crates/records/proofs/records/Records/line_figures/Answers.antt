use Rattle.std.proofs.Common.{◌≡◌, None}
use Rattle.std.proofs.lemmas.Result.{err_from_is_err_and}
use Rattle.records.specs.States.{unknown_line}
use Rattle.records.proofs.Asked.{line_unneeded}
use Rattle.records.proofs.Requests.{state}
use Rattle.records.proofs.records.Records.line_figures.Goals as goal

pub returns-in_err-need : goal.returns-in_err-need
returns-in_err-need g c =
    let net = c.args.self.now in
    let st = state net.rack net.table.memory.now net.table.len in
    let same = c.as_table-table.ensures in
    let known : unknown_line st c.args.number ≡ None = c.in_ok-line.ensures.0 in
    let p = err_from_is_err_and c.from_residual-in_err-need.result c.from_residual-in_err-need.ensures.1 in
    rw (p.1, p.2) (line_unneeded g.K.Arrival.alpha st _ _ same.rack same.streams c.args.number known c.in_ok-delays.delays c.in_ok-delays.ensures c.in_err-need.field-0.0 c.in_err-need.ensures)
