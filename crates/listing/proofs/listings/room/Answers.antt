use Rattle.std.proofs.Common.{rules}
use Rattle.std.proofs.lemmas.List.Concat.{length-flat_map}
use Rattle.listing.specs.Text.{line_text}
use Rattle.listing.proofs.listings.room.Goals as goal

pub returns : goal.returns
returns c = search (rules, length-flat_map line_text c.args.entries.now)
