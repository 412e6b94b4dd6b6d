use Rattle.std.proofs.Common.{◌≡◌, Ok, subst, inl, inr, arith}
use Rattle.std.proofs.lemmas.Result.{err_from_is_err_and}
use Rattle.std.proofs.lemmas.Bool.{cases_lt}
use Rattle.admission.specs.Checks.{LineTold}
use Rattle.admission.proofs.checks.Timed.check_lines.Goals as goal

pub returns-in_err-check_line : goal.returns-in_err-check_line
returns-in_err-check_line g c =
    let p = err_from_is_err_and c.from_residual.result c.from_residual.ensures.1 in
    rw (p.1, p.2)
    (λ q1 listed. record {
      line = c.loop-number.number;
      low = c.loop-number.auto.number;
      high = omega (arith, c.loop-number-test.true);
      earlier = λ l low less. c.loop-number.invariant l low less q1 listed;
      fails = c.in_err-check_line.ensures q1 listed;
    })

pub loop-number-preserved : goal.loop-number-preserved
loop-number-preserved g c m low less =
    let n = c.loop-number.number in
    elim (cases_lt m n) [
      | inl before ↦ c.loop-number.invariant m low before
      | inr after ↦
          let here : n ≡ m = omega arith in
          subst (λ k. LineTold g.K.Arrival.alpha c.args.self.now.table.rack.now c.args.self.now.table.streams.now c.args.self.now.delays k (Ok tt)) here c.in_ok-check_line.ensures
    ]

pub returns : goal.returns
returns g c q1 listed l low high = c.loop-number.invariant l low (omega (arith, c.loop-number-test.false)) q1 listed
