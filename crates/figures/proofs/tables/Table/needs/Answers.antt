use Rattle.std.proofs.Common.{◌≡◌, ◌-◌, get_or, set, None, Ok, sym, ◌∙◌, subst, inl, inr, arith}
use Rattle.std.proofs.lemmas.List.{get_or-set_same, get_or-set_other, length-set}
use Rattle.std.proofs.lemmas.Result.{err_from_is_err_and}
use Rattle.std.proofs.lemmas.Bool.{cases_lt}
use Rattle.figures.specs.Told.{NeedToldFor}
use Rattle.figures.proofs.tables.Table.needs.Goals as goal

pub returns-in_err-needs : goal.returns-in_err-needs
returns-in_err-needs g c =
    let p = err_from_is_err_and c.from_residual.result c.from_residual.ensures.1 in
    rw (p.1, p.2)
    (λ q1 listed. record {
      line = c.loop-number.number;
      low = c.loop-number.auto.number;
      high = omega (arith, c.loop-number-test.true);
      earlier = λ l low less. (get_or c.loop-number.needs (l - 1) None, c.loop-number.invariant.1 l low less q1 listed);
      never = c.in_err-needs.ensures q1 listed;
    })

pub loop-number-preserved : goal.loop-number-preserved
loop-number-preserved g c =
    let table = c.args.self.now in
    let n = c.loop-number.number in
    let needs = c.loop-number.needs in
    let r = c.in_ok-needs.field-0 in
    let Told = NeedToldFor g.K.Arrival.alpha table.rack.now table.streams.now c.args.delays.now.q1 in
    rw c.from.ensures (
      length-set needs (n - 1) r ∙ c.loop-number.invariant.0,
      λ m low less.
          elim (cases_lt m n) [
            | inl before ↦
                let same : get_or (set needs (n - 1) r) (m - 1) None ≡ get_or needs (m - 1) None = get_or-set_other needs (n - 1) (m - 1) r None (λ e. omega arith) in
                subst (λ o. Told m (Ok o)) (sym same) (c.loop-number.invariant.1 m low before)
            | inr after ↦
                let here : n ≡ m = omega arith in
                let same : get_or (set needs (n - 1) r) (n - 1) None ≡ r = get_or-set_same needs (n - 1) r None (omega (arith, c.loop-number.invariant.0, c.loop-number-test.true, c.loop-number.auto.number)) in
                subst (λ k. Told k (Ok (get_or (set needs (n - 1) r) (k - 1) None))) here
                (subst (λ o. Told n (Ok o)) (sym same) c.in_ok-needs.ensures)
          ],
    )

pub returns : goal.returns
returns g c q1 listed l low high = c.loop-number.invariant.1 l low (omega (arith, c.loop-number-test.false)) q1 listed
