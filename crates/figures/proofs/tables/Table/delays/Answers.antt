use Rattle.std.proofs.Common.{Err, refl, arith}
use Rattle.std.proofs.lemmas.Result.{err_from_is_err_and}
use Rattle.figures.specs.declared.hops.Hop.TheVariants.{Probe, Hub}
use Rattle.figures.proofs.ByPriority.{delays_are, first_missing, second_missing}
use Rattle.figures.proofs.TableFacts.{few, falls}
use Rattle.figures.proofs.Transport.{told_here}
use Rattle.figures.proofs.tables.Table.delays.Goals as goal

pub returns-in_err-q1 : goal.returns-in_err-q1
returns-in_err-q1 g c =
    let table = c.args.self.now in
    let first = c.punctual-punctual.ensures in
    let p = err_from_is_err_and c.from_residual.result c.from_residual.ensures.1 in
    rw (p.1, p.2)
    (first_missing g.K.Arrival.alpha table.rack.now table.streams.now (falls table.rack.now table.streams.now table.kept) c.in_err-q1.field-0.0
    (told_here g.K.Arrival.alpha Probe (Err c.in_err-q1.field-0.0) first.ours.0 first.ours.1 first.punctual c.in_err-q1.ensures.told))

pub returns-in_err-q2 : goal.returns-in_err-q2
returns-in_err-q2 g c =
    let table = c.args.self.now in
    let first = c.punctual-punctual.ensures in
    let second = c.late-late.ensures in
    let p = err_from_is_err_and c.from_residual-in_err-q2.result c.from_residual-in_err-q2.ensures.1 in
    rw (p.1, p.2)
    (second_missing g.K.Arrival.alpha table.rack.now table.streams.now (falls table.rack.now table.streams.now table.kept) c.in_ok-q1.q1 c.late-late.result.late
    (λ i h. second.late i (omega (arith, h, few table.rack.now table.streams.now table.kept)))
    (rw (first.ours.0, first.ours.1, first.punctual) at c.in_ok-q1.ensures.told) c.in_err-q2.field-0.0
    (told_here g.K.Arrival.alpha Hub (Err c.in_err-q2.field-0.0) second.ours.0 second.ours.1 refl c.in_err-q2.ensures.told))

pub returns : goal.returns
returns g c =
    let table = c.args.self.now in
    let first = c.punctual-punctual.ensures in
    let second = c.late-late.ensures in
    delays_are g.K.Arrival.alpha table.rack.now table.streams.now (falls table.rack.now table.streams.now table.kept) _ c.late-late.result.late
    (λ i h. second.late i (omega (arith, h, few table.rack.now table.streams.now table.kept)))
    (rw (first.ours.0, first.ours.1, first.punctual) at c.in_ok-q1.ensures.told)
    (rw (second.ours.0, second.ours.1) at c.in_ok-q2.ensures.told)
