use Rattle.std.proofs.Common.{min, length}
use Rattle.std.proofs.lemmas.Option.{MatchOption-at_none, MatchOption-at_some}
use Rattle.std.proofs.lemmas.Result.{err_from_is_err_and}
use Rattle.figures.specs.Limits.{most_streams}
use Rattle.wire.specs.Walks.{Ended, Met}
use Rattle.planfile.specs.Points.{noted}
use Rattle.planfile.specs.Stages.{closed, drafted, networked}
use Rattle.planfile.proofs.Whole.{bad_hub, cut_first, finish_plan, hub_fits, hub_reaches, no_records, stops_plan}
use Rattle.planfile.proofs.plans.read_plan.Goals as goal

pub returns-in_err-first : goal.returns-in_err-first
returns-in_err-first c =
    let p = err_from_is_err_and c.from_residual-in_err-first.result c.from_residual-in_err-first.ensures.1 in
    let w = c.new-walker.result in
    rw (p.1, p.2)
    (cut_first (min most_streams (length c.args.memory.now)) c.args.bytes.now c.in_ok-open.field-0.now c.in_ok-open.ensures w.at c.new-walker.ensures.at w.rest.now c.new-walker.ensures.rest (noted c.args.journal.now) c.requires
    _ _ _ c.in_err-first.ensures)

pub returns-in_default : goal.returns-in_default
returns-in_default c =
    let w = c.new-walker.result in
    let n = c.next.new.self in
    let at_end : Ended w.at w.rest.now n.at n.rest.now = MatchOption-at_none _ _ c.in_default.is c.in_ok-first.ensures in
    no_records (min most_streams (length c.args.memory.now)) c.args.bytes.now c.in_ok-open.field-0.now c.in_ok-open.ensures w.at c.new-walker.ensures.at w.rest.now c.new-walker.ensures.rest (noted c.args.journal.now) c.requires
    n.at n.rest.now at_end

pub returns-in_err-draft : goal.returns-in_err-draft
returns-in_err-draft c =
    let p = err_from_is_err_and c.from_residual-in_err-draft.result c.from_residual-in_err-draft.ensures.1 in
    let w = c.new-walker.result in
    let n = c.next.new.self in
    let place = c.in-Some.first.at in
    let front = c.in-Some.first.bytes.now in
    let met : Met w.at w.rest.now place front n.at n.rest.now = MatchOption-at_some _ _ c.in-Some.first c.in-Some.is c.in_ok-first.ensures in
    rw (p.1, p.2)
    (bad_hub (min most_streams (length c.args.memory.now)) c.args.bytes.now c.in_ok-open.field-0.now c.in_ok-open.ensures w.at c.new-walker.ensures.at w.rest.now c.new-walker.ensures.rest (noted c.args.journal.now) c.requires
    place front n.at n.rest.now met c.in_err-draft.field-0.0 c.in_err-draft.ensures)

pub read_lines-requires : goal.read_lines-requires
read_lines-requires c =
    let w = c.new-walker.result in
    let n = c.next.new.self in
    let place = c.in-Some.first.at in
    let front = c.in-Some.first.bytes.now in
    let met : Met w.at w.rest.now place front n.at n.rest.now = MatchOption-at_some _ _ c.in-Some.first c.in-Some.is c.in_ok-first.ensures in
    hub_fits (min most_streams (length c.args.memory.now)) c.args.bytes.now c.in_ok-open.field-0.now c.in_ok-open.ensures w.at c.new-walker.ensures.at w.rest.now c.new-walker.ensures.rest (noted c.args.journal.now) c.requires
    place front n.at n.rest.now met c.in_ok-draft.draft.rack c.in_ok-draft.ensures (noted c.push.new.self) c.push.ensures

pub returns-in_err-read_lines : goal.returns-in_err-read_lines
returns-in_err-read_lines c =
    let p = err_from_is_err_and c.from_residual-in_err-read_lines.result c.from_residual-in_err-read_lines.ensures.1 in
    let w = c.new-walker.result in
    let n = c.next.new.self in
    let place = c.in-Some.first.at in
    let front = c.in-Some.first.bytes.now in
    let met : Met w.at w.rest.now place front n.at n.rest.now = MatchOption-at_some _ _ c.in-Some.first c.in-Some.is c.in_ok-first.ensures in
    rw (p.1, p.2)
    (stops_plan (min most_streams (length c.args.memory.now)) c.args.bytes.now c.in_ok-open.field-0.now c.in_ok-open.ensures
    (noted c.push.new.self) (drafted c.in_ok-draft.draft.rack) n.at n.rest.now
    (hub_reaches (min most_streams (length c.args.memory.now)) c.args.bytes.now c.in_ok-open.field-0.now c.in_ok-open.ensures w.at c.new-walker.ensures.at w.rest.now c.new-walker.ensures.rest (noted c.args.journal.now) c.requires
    place front n.at n.rest.now met c.in_ok-draft.draft.rack c.in_ok-draft.ensures (noted c.push.new.self) c.push.ensures)
    (noted c.read_lines.new.journal) c.in_err-read_lines.field-0.0 (c.in_err-read_lines.ensures (min most_streams (length c.args.memory.now))))

pub returns : goal.returns
returns c =
    let w = c.new-walker.result in
    let o = c.read_lines.new.walker in
    let n = c.next.new.self in
    let place = c.in-Some.first.at in
    let front = c.in-Some.first.bytes.now in
    let met : Met w.at w.rest.now place front n.at n.rest.now = MatchOption-at_some _ _ c.in-Some.first c.in-Some.is c.in_ok-first.ensures in
    finish_plan (min most_streams (length c.args.memory.now)) c.args.bytes.now c.in_ok-open.field-0.now c.in_ok-open.ensures
    (noted c.read_lines.new.journal) (networked (closed (min most_streams (length c.args.memory.now)) c.read_lines.new.draft.rack)) o.at o.rest.now
    (c.in_ok-read_lines.ensures.0 (min most_streams (length c.args.memory.now)) c.in_ok-open.field-0.now
    (hub_reaches (min most_streams (length c.args.memory.now)) c.args.bytes.now c.in_ok-open.field-0.now c.in_ok-open.ensures w.at c.new-walker.ensures.at w.rest.now c.new-walker.ensures.rest (noted c.args.journal.now) c.requires
    place front n.at n.rest.now met c.in_ok-draft.draft.rack c.in_ok-draft.ensures (noted c.push.new.self) c.push.ensures))
    (noted c.finish.new.journal) c.finish.result c.finish.ensures
