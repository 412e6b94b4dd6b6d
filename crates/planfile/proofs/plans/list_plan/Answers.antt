use Rattle.std.proofs.Common.{◌≡◌, ℕ, List, min, length, Ok, Err, Result, sym, refl, subst, rules, MatchResult}
use borrow.Author.Tests.{tests}
use Rattle.figures.specs.Limits.{most_streams}
use Rattle.listing.specs.Laid.{Wrote}
use Rattle.listing.specs.Text.{listing_text}
use Rattle.listing.specs.declared.listings.NoRoom as listings
use Rattle.wire.specs.declared.faults.FileFault.{FileFault}
use Rattle.wire.specs.declared.faults.FileFault.TheVariants.{NoRoom}
use Rattle.planfile.specs.Plans.{Printed}
use Rattle.planfile.specs.Points.{noted}
use Rattle.planfile.proofs.Whole.{plan_told}
use Rattle.planfile.proofs.plans.list_plan.Goals as goal

printed : (before text after : List ℕ) (wrote : Result ℕ listings.NoRoom) (r : Result ℕ FileFault) → Wrote before text wrote after
    → MatchResult wrote (λ n. r ≡ Ok n) (λ e. r ≡ Err NoRoom) → Printed before text r after
printed before text after (Ok n) r w is = subst (λ x. Printed before text x after) (sym is) w
printed before text after (Err e) r w is = subst (λ x. Printed before text x after) (sym is) (refl, w.0, w.1)

pub returns-clause-told : goal.returns-clause-told
returns-clause-told c =
    let room = min most_streams (length c.args.memory.now) in
    let entries = c.entries.result.now in
    let as_fault : MatchResult c.write_listing.result (λ n. c.map_err.result ≡ Ok n) (λ e. c.map_err.result ≡ Err NoRoom) = search (rules, tests) in
    plan_told room c.args.bytes.now c.args.out.now c.map_err.result c.write_listing.new.out (noted c.list_entries-journal.result) entries
    c.list_entries-journal.ensures c.entries.ensures.value
    (printed c.args.out.now (listing_text entries) c.write_listing.new.out c.write_listing.result c.map_err.result c.write_listing.ensures.wrote as_fault)
