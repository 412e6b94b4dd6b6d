use Rattle.std.proofs.Common.{◌<◌, ◌∙◌, arith}
use Rattle.std.proofs.lemmas.List.{get_or-take, length-take-le}
use Rattle.records.proofs.Requests.{state}
use Rattle.network.proofs.CallLists.{carrying_more}
use Rattle.network.proofs.networks.public.carry_all.Goals as goal

pub loop-i-preserved : goal.loop-i-preserved
loop-i-preserved g c =
    let first = c.args.network.now.records in
    let net = c.loop-i.network.records in
    let new = c.carry.new.self.records in
    let calls = c.args.calls.now in
    let i = c.loop-i.i in
    let n = c.min-count.result in
    let few = length-take-le n calls (omega (arith, c.min-count.ensures)) in
    let low : i < n = omega (arith, c.loop-i-test.true, few) in
    carrying_more g.K.Arrival.alpha (state first.rack first.table.memory.now first.table.len) calls c.args.answers.now c.loop-i.answers i (state net.rack net.table.memory.now net.table.len) (state new.rack new.table.memory.now new.table.len) c.call-item.result c.carry.result
    (omega (arith, low, c.min-count.ensures)) (omega (arith, low, c.min-count.ensures, c.loop-i.invariant.long)) (c.call-item.is ∙ get_or-take n calls i c.call-item.result low) c.loop-i.invariant c.carry.ensures
