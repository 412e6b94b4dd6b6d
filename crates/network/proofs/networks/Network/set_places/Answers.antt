use Rattle.std.proofs.Common.{refl}
use Rattle.records.specs.Records.{state_of}
use Rattle.network.specs.declared.calls.Call.TheVariants.{SetPlaces}
use Rattle.network.proofs.Steps.{laws, passing_step}
use Rattle.network.proofs.networks.Network.set_places.Goals as goal

pub returns-clause-passing : goal.returns-clause-passing
returns-clause-passing g c =
    passing_step g.K.Arrival.alpha (state_of c.args.self.now.records) (SetPlaces c.args.number c.args.places) _ (state_of c.set_places.new.self)
    (c.set_places.result, refl, c.set_places.ensures.told) (laws g.met.K.Arrival)
