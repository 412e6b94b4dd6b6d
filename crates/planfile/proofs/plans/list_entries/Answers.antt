use Rattle.std.proofs.Common.{min, [], ◌∷◌, ◌++◌, length, ◌∙◌, ap₂}
use Rattle.figures.specs.Limits.{most_streams}
use Rattle.listing.specs.declared.entries.Entry.TheVariants.{Stopped}
use Rattle.planfile.specs.Points.{noted}
use Rattle.planfile.proofs.Whole.{stopped_entered}
use Rattle.planfile.proofs.plans.list_entries.Goals as goal

pub returns-in-Err : goal.returns-in-Err
returns-in-Err c =
    let lines = noted c.read_plan.new.journal in
    let same = ap₂ (λ p n. lines ++ Stopped n p ∷ []) c.place.ensures c.number.ensures in
    stopped_entered (min most_streams (length c.args.memory.now)) c.args.bytes.now c.in-Err.fault lines (noted c.push.new.self)
    c.in-Err.ensures (c.push.ensures ∙ same)
