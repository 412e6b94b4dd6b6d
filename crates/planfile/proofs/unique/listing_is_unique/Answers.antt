use Rattle.planfile.proofs.OneListing.{one_listing}
use Rattle.planfile.proofs.unique.listing_is_unique.Goals as goal

pub returns : goal.returns
returns c = one_listing
