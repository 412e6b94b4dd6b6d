use Rattle.records.proofs.Requests.{state}
use Rattle.network.proofs.CallLists.{Carrying}
use Rattle.network.proofs.networks.public.carry_all.Given as goal

abbrev pub invariant-loop-i : goal.invariant-loop-i
invariant-loop-i g l =
    let first = l.initial.network.records in
    let net = l.network.records in
    Carrying g.K.Arrival.alpha (state first.rack first.table.memory.now first.table.len) l.calls l.initial.answers l.answers l.i (state net.rack net.table.memory.now net.table.len)
