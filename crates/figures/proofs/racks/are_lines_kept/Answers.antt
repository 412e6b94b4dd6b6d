use Rattle.std.proofs.Common.{◌∙◌, rules, tests}
use Rattle.std.proofs.lemmas.Iterator.{YieldsList-from_slice}
use Rattle.std.proofs.lemmas.Iterator.Search.{all_from_yields_List}
use Rattle.figures.specs.Racks.{line_kept}
use Rattle.figures.specs.RackLimits.{each_kept}
use Rattle.figures.proofs.racks.are_lines_kept.Goals as goal

pub returns : goal.returns
returns c =
    all_from_yields_List line_kept _ _ _ c.all.ensures.ran (YieldsList-from_slice c.args.lines.now cc) (λ x b q k. search (rules, tests))
    ∙ each_kept c.args.lines.now
