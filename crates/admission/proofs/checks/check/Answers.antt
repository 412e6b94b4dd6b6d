use Rattle.std.proofs.Common.{Ok, subst₂}
use Rattle.figures.specs.Told.{DelaysAre}
use Rattle.admission.specs.Checks.{DeadlinesTold, LinesTold}
use Rattle.admission.proofs.Verdict.{verdict}
use Rattle.admission.proofs.checks.check.Goals as goal

pub returns : goal.returns
returns g c =
    let α = g.K.Arrival.alpha in
    let rack = c.args.rack.now in
    let streams = c.args.streams.now in
    let same = c.in-Some.ensures in
    let figures = c.in_ok-delays.delays in
    let are : DelaysAre α rack streams figures = subst₂ (λ r t. DelaysAre α r t figures) same.0 same.1 c.in_ok-delays.ensures in
    let late : DeadlinesTold rack streams figures (Ok tt) = subst₂ (λ r t. DeadlinesTold r t figures (Ok tt)) same.0 same.1 c.in_ok-check_deadlines.ensures in
    verdict α rack streams c.requires.kept c.requires.distinct c.requires.sixteen figures are
    (late are.q1 are.q2 are.first_listed are.second_listed) c.check_lines.result
    (subst₂ (λ r t. LinesTold α r t figures c.check_lines.result) same.0 same.1 c.check_lines.ensures)
