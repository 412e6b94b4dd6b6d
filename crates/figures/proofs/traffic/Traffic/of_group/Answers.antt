use Rattle.std.proofs.Common.{◌≡◌, min, get_or, None, sym, ◌∙◌, arith}
use Rattle.std.proofs.lemmas.Bool.{cond-true, cond-false}
use Rattle.arrivals.specs.Limits.{longest}
use Rattle.figures.specs.Sums.{seen}
use Rattle.figures.specs.GroupSums.{share, group_more, group_all}
use Rattle.figures.proofs.traffic.Traffic.of_group.Goals as goal
use Rattle.figures.proofs.traffic.Traffic.of_group.Goals.{then-has, else-has}

pub overflow_add-sum : goal.overflow_add-sum
overflow_add-sum g c = omega (arith, c.seen_count-sum.ensures.small)

pub loop-place-preserved : goal.loop-place-preserved
loop-place-preserved g c =
    let α = g.K.Arrival.alpha in
    let w = min c.args.window longest in
    let i = c.loop-place.place in
    let e = c.stream-item.result in
    let group = c.args.group.now in
    let late = c.args.self.now.late in
    let more = group_more α late group w c.args.self.now.streams.now i e c.loop-place-test.true c.stream-item.is in
    elim c.if-has.branch [
      | then-has x ↦
          let s : share α late group w i e ≡ seen α (get_or late i None) e.kind w = cond-true _ _ _ (sym c.has.ensures ∙ x.if-has.true) in
          let n = x.seen_count-sum.ensures in
          (omega (arith, x.sum-is), omega (arith, x.sum-is))
      | else-has x ↦
          let s : share α late group w i e ≡ 0 = cond-false _ _ _ (sym c.has.ensures ∙ x.if-has.false) in
          (omega (arith, x.sum-is), omega (arith, x.sum-is))
    ]

pub returns : goal.returns
returns g c =
    omega (arith, group_all g.K.Arrival.alpha c.args.self.now.late c.args.group.now (min c.args.window longest) c.args.self.now.streams.now c.loop-place.place c.loop-place-test.false)
