use Rattle.std.proofs.Common.{rules}
use Rattle.records.proofs.Found.{number_told}
use Rattle.records.proofs.records.Records.find.Goals as goal

pub returns : goal.returns
returns g c =
    let told = number_told c.args.number c.streams.result.now c.find_number.result c.find_number.ensures in
    search rules
