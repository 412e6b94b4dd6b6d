use Rattle.std.proofs.Common.{refl}
use Rattle.records.specs.Records.{state_of}
use Rattle.network.specs.declared.calls.Call.TheVariants.{Withdraw}
use Rattle.network.proofs.Steps.{laws, passing_step}
use Rattle.network.proofs.networks.Network.withdraw.Goals as goal

pub returns-clause-passing : goal.returns-clause-passing
returns-clause-passing g c =
    passing_step g.K.Arrival.alpha (state_of c.args.self.now.records) (Withdraw c.args.number) _ (state_of c.withdraw.new.self)
    (c.withdraw.result, refl, c.withdraw.ensures.told) (laws g.met.K.Arrival)
