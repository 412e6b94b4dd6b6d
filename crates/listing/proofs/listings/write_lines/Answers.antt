use Rattle.std.proofs.Common.{[], get_or, take, sym, ap, ◌∙◌, arith, length-drop}
use Rattle.listing.specs.declared.entries.Entry.TheVariants.{Done}
use Rattle.listing.specs.Text.{line_text, listing_text}
use Rattle.std.proofs.lemmas.List.{take_rest, take_more, flat_map_more}
use Rattle.std.proofs.lemmas.List.Folds.{length-flat_map-take}
use Rattle.listing.proofs.Lays.{begun_more}
use Rattle.listing.proofs.listings.write_lines.Goals as goal

pub write-end-requires : goal.write-end-requires
write-end-requires c =
    let m = length-flat_map-take line_text c.args.entries.now c.loop-entry.entry-index (Done 0) c.loop-entry-test.true in
    simp (take_rest, length-drop) (omega arith)

pub loop-entry-preserved : goal.loop-entry-preserved
loop-entry-preserved c =
    let xs = c.args.entries.now in
    let i = c.loop-entry.entry-index in
    let m = length-flat_map-take line_text xs i (Done 0) c.loop-entry-test.true in
    rw (ap listing_text (take_more xs i (Done 0) c.loop-entry-test.true) ∙ sym (flat_map_more line_text [] (take i xs) (get_or xs i (Done 0))))
    (begun_more c.args.out.now (listing_text (take i xs)) (line_text (get_or xs i (Done 0))) c.loop-entry.out _ _ _ c.loop-entry.invariant c.write-end.ensures.after c.write-end.ensures.count (omega arith))
