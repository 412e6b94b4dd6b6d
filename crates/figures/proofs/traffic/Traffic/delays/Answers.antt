use Rattle.std.proofs.Common.{◌≡◌, Some, None, subst, arith}
use Rattle.std.proofs.lemmas.Result.{err_from_is_err_and}
use Rattle.figures.specs.declared.faults.FigureFault.TheVariants.{NoDelay}
use Rattle.figures.specs.Told.{StreamToldFor, Near}
use Rattle.figures.proofs.HopScan.{scanned_none, scanned_more, scanned_fails}
use Rattle.figures.proofs.traffic.Traffic.delays.Goals as goal

pub loop-place-init : goal.loop-place-init
loop-place-init g c = scanned_none _ _ _ _ _

pub returns-in_err-delays-clause-told : goal.returns-in_err-delays-clause-told
returns-in_err-delays-clause-told g c =
    let traffic = c.args.self.now in
    let none : c.delay-delay.result ≡ None = c.in_err-delays.ensures.ok_part in
    let named : c.in_err-delays.field-0.0 ≡ NoDelay c.stream-item.result.number = let e = rw none at c.in_err-delays.ensures.value in cc in
    let p = err_from_is_err_and c.from_residual.result c.from_residual.ensures.1 in
    rw (p.1, p.2, named)
    (scanned_fails g.K.Arrival.alpha traffic.rack.now traffic.streams.now c.args.hop traffic.late c.loop-place.place c.loop-place.delays c.stream-item.result c.loop-place.invariant c.loop-place-test.true c.stream-item.is
    (subst (StreamToldFor g.K.Arrival.alpha traffic.rack.now traffic.streams.now c.args.hop traffic.late c.loop-place.place) none c.delay-delay.ensures.told))

pub loop-place-preserved : goal.loop-place-preserved
loop-place-preserved g c =
    let traffic = c.args.self.now in
    let some : c.delay-delay.result ≡ Some c.in_ok-delays.field-0 = c.in_ok-delays.ensures.ok_part in
    scanned_more g.K.Arrival.alpha traffic.rack.now traffic.streams.now c.args.hop traffic.late c.loop-place.place c.loop-place.delays c.loop-place.invariant
    (omega (arith, traffic.few, c.loop-place-test.true)) c.in_ok-delays.field-0 (subst Near some c.delay-delay.ensures.near)
    (subst (StreamToldFor g.K.Arrival.alpha traffic.rack.now traffic.streams.now c.args.hop traffic.late c.loop-place.place) some c.delay-delay.ensures.told)
