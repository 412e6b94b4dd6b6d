use Rattle.std.proofs.Common.{rules}
use Rattle.network.proofs.networks.Network.carry.Goals as goal

pub returns-in-Request : goal.returns-in-Request
returns-in-Request g c = rw c.in-Request.is (c.request.result, search rules, c.request.ensures.told)

pub returns-in-SetPlaces : goal.returns-in-SetPlaces
returns-in-SetPlaces g c = rw c.in-SetPlaces.is (c.set_places.result, search rules, c.set_places.ensures.told)
