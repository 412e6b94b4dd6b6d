use Rattle.std.proofs.Common.{take}
use Rattle.listing.specs.Text.{listing_text}
use Rattle.listing.proofs.Lays.{Begun}
use Rattle.listing.proofs.listings.write_lines.Given as goal

abbrev pub invariant-loop-entry : goal.invariant-loop-entry
invariant-loop-entry l = Begun l.initial.out (listing_text (take l.entry-index l.entries)) l.out l.end
