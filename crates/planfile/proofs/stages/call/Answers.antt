use Rattle.std.proofs.Math.Logic.{∥∥₁_map}
use Rattle.planfile.proofs.stages.call.Goals as goal

pub invariant_of-admitted : goal.invariant_of-admitted
invariant_of-admitted c = record { passing = ∥∥₁_map c.args.admitted.now.passing c.request.ensures.passing }

pub invariant_of-admitted-in-Withdrawal : goal.invariant_of-admitted-in-Withdrawal
invariant_of-admitted-in-Withdrawal c = record { passing = ∥∥₁_map c.args.admitted.now.passing c.withdraw.ensures.passing }

pub invariant_of-admitted-in-Places : goal.invariant_of-admitted-in-Places
invariant_of-admitted-in-Places c = record { passing = ∥∥₁_map c.args.admitted.now.passing c.set_places.ensures.passing }
