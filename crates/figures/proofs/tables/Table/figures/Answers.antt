use Rattle.std.proofs.Common.{inr}
use Rattle.std.proofs.lemmas.Result.{err_from_is_err_and}
use Rattle.figures.proofs.tables.Table.figures.Goals as goal

pub returns-in_err-needs : goal.returns-in_err-needs
returns-in_err-needs g c =
    let p = err_from_is_err_and c.from_residual-in_err-needs.result c.from_residual-in_err-needs.ensures.1 in
    let are = c.in_ok-delays.ensures in
    rw (p.1, p.2)
    (inr (record { delays = c.in_ok-delays.delays; are = are; never = c.in_err-needs.ensures are.q1 are.first_listed }))

pub returns : goal.returns
returns g c =
    let are = c.in_ok-delays.ensures in
    record { delays_are = are; needs_are = c.in_ok-needs.ensures are.q1 are.first_listed }
