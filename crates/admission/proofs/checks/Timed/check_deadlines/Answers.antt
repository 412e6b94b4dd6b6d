use Rattle.std.proofs.Common.{◌≡◌, get_or, length, refl, ap, subst, arith}
use Rattle.admission.proofs.Parts.{in_time_more, first_late, all_in_time}
use Rattle.admission.proofs.checks.Timed.check_deadlines.Goals as goal
use Rattle.admission.proofs.checks.Timed.check_deadlines.Goals.{in-Some+else-figures-stream, in_default}

pub returns-then-figures-stream : goal.returns-then-figures-stream
returns-then-figures-stream g c =
    let timed = c.args.self.now in
    let here = subst (λ t. c.stream-item.result ≡ get_or t c.loop-place.place c.stream-item.result) c.streams-stream-items.ensures c.stream-item.is in (
      c.stream-item.result.number,
      refl,
      first_late timed.table.rack.now timed.table.streams.now timed.delays c.loop-place.place c.in-Some.figures c.stream-item.result
          c.in-Some.ensures here c.if-figures-stream.true c.loop-place.invariant,
    )

pub loop-place-preserved : goal.loop-place-preserved
loop-place-preserved g c =
    let timed = c.args.self.now in
    let i = c.loop-place.place in
    let same = c.streams-stream-items.ensures in
    let here = subst (λ t. c.stream-item.result ≡ get_or t i c.stream-item.result) same c.stream-item.is in
    elim c.match-of_stream.branch [
      | in-Some+else-figures-stream w ↦
          in_time_more timed.table.rack.now timed.table.streams.now timed.delays i w.in-Some.figures c.stream-item.result
          w.in-Some.ensures here w.if-figures-stream.false c.loop-place.invariant
      | in_default w ↦ absurd (omega (arith, c.loop-place-test.true, ap length same, w.in_default.ensures))
    ]

pub returns : goal.returns
returns g c =
    let timed = c.args.self.now in
    all_in_time timed.table.rack.now timed.table.streams.now timed.delays
    (λ q1 q2 first second j less. c.loop-place.invariant q1 q2 first second j (omega (arith, ap length c.streams-stream-items.ensures, c.loop-place-test.false)))
