use Rattle.std.proofs.Common.{◌∙◌, rules, tests}
use Rattle.std.proofs.lemmas.Iterator.{YieldsList-from_slice}
use Rattle.std.proofs.lemmas.Iterator.Search.{all_from_yields_List}
use Rattle.figures.specs.Tables.{placed}
use Rattle.figures.proofs.TableFacts.{each_placed}
use Rattle.figures.proofs.tables.are_placed.Goals as goal

pub returns : goal.returns
returns g c =
    all_from_yields_List (placed c.args.rack.now) _ _ _ c.all.ensures.ran (YieldsList-from_slice c.args.streams.now cc) (λ x b q k. search (rules, tests))
    ∙ each_placed c.args.rack.now c.args.streams.now
