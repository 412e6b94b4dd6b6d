use Rattle.std.proofs.Common.{ap, rules}
use Rattle.std.proofs.lemmas.List.{get_or_default}
use Rattle.std.proofs.lemmas.Option.{MatchOption-at_some}
use Rattle.records.proofs.Found.{number_told, priority_told}
use Rattle.records.proofs.records.Records.check_newcomer.Goals as goal

pub returns-then-is_some : goal.returns-then-is_some
returns-then-is_some g c =
    let number = number_told c.args.stream.now.number c.streams-streams.result.now c.find_number.result c.find_number.ensures in
    search rules

pub returns-in-Some : goal.returns-in-Some
returns-in-Some g c =
    let number = number_told c.args.stream.now.number c.streams-streams.result.now c.find_number.result c.find_number.ensures in
    let priority = priority_told c.args.stream.now.priority c.streams-streams.result.now c.find_priority.result c.find_priority.ensures in
    let here = MatchOption-at_some _ _ c.in-Some.holder c.in-Some.is priority in
    let same = ap (λ x. x.number) (get_or_default c.streams-streams.result.now c.in-Some.holder c.index-streams-holder.result c.args.stream.now here.1) in
    search rules

pub returns-then-is_full : goal.returns-then-is_full
returns-then-is_full g c =
    let number = number_told c.args.stream.now.number c.streams-streams.result.now c.find_number.result c.find_number.ensures in
    let priority = priority_told c.args.stream.now.priority c.streams-streams.result.now c.find_priority.result c.find_priority.ensures in
    search rules

pub returns : goal.returns
returns g c =
    let number = number_told c.args.stream.now.number c.streams-streams.result.now c.find_number.result c.find_number.ensures in
    let priority = priority_told c.args.stream.now.priority c.streams-streams.result.now c.find_priority.result c.find_priority.ensures in
    search rules
