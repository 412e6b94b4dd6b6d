use Rattle.std.proofs.Common.{min, length, ap, subst, arith}
use Rattle.std.proofs.lemmas.Result.{err_from_is_err_and}
use Rattle.figures.specs.Limits.{most_streams}
use Rattle.figures.proofs.TableFacts.{few}
use Rattle.records.specs.Records.{state_of, table}
use Rattle.planfile.specs.Points.{Stops, noted}
use Rattle.planfile.specs.Stages.{networked}
use Rattle.planfile.proofs.FigureLines.{sound}
use Rattle.planfile.proofs.Whole.{finishes}
use Rattle.planfile.proofs.plans.finish.Goals as goal

pub returns-in_err-run : goal.returns-in_err-run
returns-in_err-run c =
    let p = err_from_is_err_and c.from_residual.result c.from_residual.ensures.1 in
    let w = c.args.walker in
    let room = min most_streams (length c.args.memory.now) in
    rw (p.1, p.2)
    (subst (λ st. Stops (noted c.args.journal.now) (networked st) w.at w.rest.now room (noted c.run.new.journal) c.in_err-run.field-0.0)
    c.close-network.ensures.state (c.in_err-run.ensures room))

pub list_figures-requires : goal.list_figures-requires
list_figures-requires c =
    let net = c.run.new.admitted.network in
    let ends = c.in_ok-run.ensures 0 in
    omega (arith, ends.few, few net.records.rack (table net.records) net.kept)

pub returns : goal.returns
returns c =
    let w = c.args.walker in
    let net = c.run.new.admitted.network in
    let room = min most_streams (length c.args.memory.now) in
    finishes (noted c.args.journal.now) (networked (state_of c.close-network.result.records)) (networked _) w.at w.rest.now room
    (noted c.run.new.journal) (noted c.list_figures.new.journal) (state_of net.records)
    (ap networked c.close-network.ensures.state) (c.in_ok-run.ensures room)
    (sound net) c.run.new.admitted.passing c.list_figures.ensures
