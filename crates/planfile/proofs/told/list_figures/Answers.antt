use Rattle.std.proofs.Common.{Err, subst₂, length, ap, arith, length-append}
use Rattle.std.proofs.Math.Logic.{∥∥₁_elim}
use Rattle.figures.specs.Told.{FiguresAre, FiguresTold}
use Rattle.records.specs.Records.{state_of, table}
use Rattle.planfile.specs.Kinds.{plan_alpha}
use Rattle.planfile.specs.Points.{noted}
use Rattle.network.proofs.FiguresTold.{figures_there}
use Rattle.planfile.proofs.FigureLines.{sound, network_added, streams_length}
use Rattle.planfile.proofs.told.list_figures.Goals as goal

pub unreachable-requires : goal.unreachable-requires
unreachable-requires c =
    let net = c.args.admitted.now.network in
    ∥∥₁_elim c.args.admitted.now.passing (elim [ ]) (λ P. figures_there plan_alpha (state_of net.records) (sound net)
    P c.in_default.field-0
    (subst₂ (λ r t. FiguresTold plan_alpha r t (Err c.in_default.field-0)) c.as_table-view.ensures.rack c.as_table-view.ensures.streams c.in_default.ensures))

pub list_streams-requires-clause-delays : goal.list_streams-requires-clause-delays
list_streams-requires-clause-delays c =
    let are : FiguresAre plan_alpha c.args.admitted.now.network.records.rack (table c.args.admitted.now.network.records) c.in-Ok.figures =
    subst₂ (λ r t. FiguresAre plan_alpha r t c.in-Ok.figures) c.as_table-view.ensures.rack c.as_table-view.ensures.streams c.in-Ok.ensures in
    are.delays_are

pub list_lines-requires-clause-figures : goal.list_lines-requires-clause-figures
list_lines-requires-clause-figures c =
    subst₂ (λ r t. FiguresAre plan_alpha r t c.in-Ok.figures) c.as_table-view.ensures.rack c.as_table-view.ensures.streams c.in-Ok.ensures

pub list_lines-requires-clause-few : goal.list_lines-requires-clause-few
list_lines-requires-clause-few c =
    let added = c.list_streams.ensures in
    omega (
      arith,
      c.requires,
      ap length added.2,
      length-append (noted c.args.journal.now) added.0,
      streams_length (state_of c.args.admitted.now.network.records) added.1,
    )

pub returns : goal.returns
returns c =
    network_added (state_of c.args.admitted.now.network.records) (noted c.args.journal.now) (noted c.list_streams.new.journal)
    (noted c.list_lines.new.journal) c.list_streams.ensures c.list_lines.ensures
