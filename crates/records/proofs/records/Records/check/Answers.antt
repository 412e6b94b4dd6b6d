use Rattle.std.proofs.Common.{sym, subst}
use Rattle.figures.specs.Tables.{Distinct}
use Rattle.records.specs.Records.{table}
use Rattle.records.proofs.Differ.{differ_distinct}
use Rattle.records.proofs.records.Records.check.Goals as goal

pub check-requires-clause-distinct : goal.check-requires-clause-distinct
check-requires-clause-distinct g c =
    subst (λ t. Distinct t) (sym c.streams.ensures) (differ_distinct (table c.args.self.now) c.requires.differ)
