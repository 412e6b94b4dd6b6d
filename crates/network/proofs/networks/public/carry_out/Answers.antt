use Rattle.std.proofs.Common.{length, take, subst}
use Rattle.figures.specs.Tables.{Passing}
use Rattle.records.proofs.Requests.{state}
use Rattle.network.specs.States.{Carried}
use Rattle.network.proofs.Covering.{promised}
use Rattle.network.proofs.Steps.{laws, passing_carried}
use Rattle.network.proofs.networks.public.carry_out.Goals as goal

pub returns : goal.returns
returns g c =
    let α = g.K.Arrival.alpha in
    let first = c.close-network.result.records in
    let net = c.carry_all.new.network in
    let st = state net.records.rack net.records.table.memory.now net.records.table.len in
    let calls = take (length c.args.answers.now) c.args.calls.now in
    let answers = take (length c.args.calls.now) c.carry_all.new.answers in
    let passing : Passing α st.rack st.streams = passing_carried α (state first.rack first.table.memory.now first.table.len) calls answers st c.carry_all.ensures.carried
    (laws g.met.K.Arrival) c.close-network.ensures.passing in
    record {
      carried = subst (λ s. Carried α s calls answers st) c.close-network.ensures.state c.carry_all.ensures.carried;
      rest = c.carry_all.ensures.rest;
      promised = promised α st (record { kept = net.kept; differ = net.differ; sixteen = net.sixteen; fields = net.fields }) passing;
    }
