use Rattle.admission.proofs.Uniquely.{one_verdict}
use Rattle.admission.proofs.unique.verdict_is_unique.Goals as goal

pub returns : goal.returns
returns g c = one_verdict _
