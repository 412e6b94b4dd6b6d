use Rattle.std.proofs.Common.{Ok, sym, ap, ◌∙◌}
use Rattle.planfile.proofs.Taking.{opens}
use Rattle.planfile.proofs.stages.open_draft.Goals as goal

pub returns : goal.returns
returns c =
    opens c.args.piece.at c.args.piece.bytes.now c.in-Hub.least c.in-Hub.most
    (sym c.in_ok-least.ensures ∙ ap Ok c.in-Hub.is) c.new.result c.new.ensures c.placed.result c.placed.ensures
