use Rattle.std.proofs.Common.{refl}
use Rattle.records.specs.Records.{state_of}
use Rattle.network.specs.declared.calls.Call.TheVariants.{Request}
use Rattle.network.proofs.Steps.{laws, passing_step}
use Rattle.network.proofs.networks.Network.request.Goals as goal

pub returns-clause-passing : goal.returns-clause-passing
returns-clause-passing g c =
    passing_step g.K.Arrival.alpha (state_of c.args.self.now.records) (Request c.args.stream) _ (state_of c.request.new.self)
    (c.request.result, refl, c.request.ensures.told) (laws g.met.K.Arrival)
