use Rattle.std.proofs.Common.{Ok, Err, sym, refl, ap, ◌∙◌}
use Rattle.std.proofs.lemmas.Option.{MatchOption-at_none, MatchOption-at_some}
use Rattle.std.proofs.lemmas.Result.{err_from_is_err_and}
use Rattle.wire.specs.Walks.{Ended, Met}
use Rattle.planfile.specs.declared.phases.Phase.TheVariants.{Drafting}
use Rattle.planfile.specs.Points.{Took, noted}
use Rattle.planfile.specs.Stages.{drafted, read_in}
use Rattle.planfile.proofs.Handover.{handed_at_call, handed_at_end, line_took, said_fault}
use Rattle.planfile.proofs.Reached.{cut_stops, fitting_on, leads_on, took_stops}
use Rattle.planfile.proofs.Taking.{misread_took}
use Rattle.planfile.proofs.readers.read_lines.Goals as goal

pub returns-in_err-record : goal.returns-in_err-record
returns-in_err-record c =
    let p = err_from_is_err_and c.from_residual.result c.from_residual.ensures.1 in
    let w = c.args.walker.now in
    let a = c.loop-record.ahead in
    rw (p.1, p.2)
    (cut_stops (noted c.args.journal.now) (drafted c.args.draft.now.rack) w.at w.rest.now
    (noted c.loop-record.journal) (drafted c.loop-record.draft.rack) a.at a.rest.now c.loop-record.invariant.0 c.loop-record.invariant.1
    _ _ _ c.in_err-record.ensures)

pub returns-in_err-number : goal.returns-in_err-number
returns-in_err-number c =
    let p = err_from_is_err_and c.from_residual-in_err-number.result c.from_residual-in_err-number.ensures.1 in
    let w = c.args.walker.now in
    let a = c.loop-record.ahead in
    let n = c.next.new.self in
    let place = c.in-Some.record.at in
    let front = c.in-Some.record.bytes.now in
    let met : Met a.at a.rest.now place front n.at n.rest.now = MatchOption-at_some _ _ c.in-Some.record c.in-Some.is c.in_ok-record.ensures in
    let fault = c.in_err-number.field-0.0 in
    let stage = drafted c.loop-record.draft.rack in
    rw (p.1, p.2)
    (took_stops (noted c.args.journal.now) (drafted c.args.draft.now.rack) w.at w.rest.now
    (noted c.loop-record.journal) (drafted c.loop-record.draft.rack) a.at a.rest.now c.loop-record.invariant.0 c.loop-record.invariant.1 place front n.at n.rest.now met
    fault stage (noted c.loop-record.journal)
    (misread_took stage place front fault stage (noted c.loop-record.journal) (said_fault (read_in Drafting place front) fault c.in_err-number.ensures)))

pub returns-in_default-2 : goal.returns-in_default-2
returns-in_default-2 c =
    let w = c.args.walker.now in
    let a = c.loop-record.ahead in
    let n = c.next.new.self in
    let place = c.in-Some.record.at in
    let front = c.in-Some.record.bytes.now in
    let met : Met a.at a.rest.now place front n.at n.rest.now = MatchOption-at_some _ _ c.in-Some.record c.in-Some.is c.in_ok-record.ensures in
    let o = c.loop-record.walker in
    handed_at_call (noted c.args.journal.now) (drafted c.args.draft.now.rack) w.at w.rest.now
    (noted c.loop-record.journal) c.loop-record.draft.rack a.at a.rest.now c.loop-record.invariant.0 c.loop-record.invariant.1
    o.at o.rest.now c.loop-record.invariant.2 c.loop-record.invariant.3 place front n.at n.rest.now met
    (ap Ok (sym c.in_default-2.is) ∙ c.in_ok-number.ensures)

pub returns-in_err-note : goal.returns-in_err-note
returns-in_err-note c =
    let p = err_from_is_err_and c.from_residual-in_err-note.result c.from_residual-in_err-note.ensures.1 in
    let w = c.args.walker.now in
    let a = c.loop-record.ahead in
    let n = c.next.new.self in
    let place = c.in-Some.record.at in
    let front = c.in-Some.record.bytes.now in
    let met : Met a.at a.rest.now place front n.at n.rest.now = MatchOption-at_some _ _ c.in-Some.record c.in-Some.is c.in_ok-record.ensures in
    let fault = c.in_err-note.field-0.0 in
    let took : Took (drafted c.loop-record.draft.rack) (noted c.loop-record.journal) place front (Err fault) (drafted c.add_line.new.self.rack) (noted c.note.new.self) =
    line_took c.loop-record.draft.rack c.add_line.new.self.rack (noted c.loop-record.journal) (noted c.note.new.self) place front c.in-Some-2.number c.in-Some-2.line c.add_line.result (Err fault)
    (ap Ok (sym c.in-Some-2.is) ∙ c.in_ok-number.ensures) c.add_line.ensures.told c.add_line.ensures.rack c.in_err-note.ensures.told c.in_err-note.ensures.lines in
    rw (p.1, p.2)
    (took_stops (noted c.args.journal.now) (drafted c.args.draft.now.rack) w.at w.rest.now
    (noted c.loop-record.journal) (drafted c.loop-record.draft.rack) a.at a.rest.now c.loop-record.invariant.0 c.loop-record.invariant.1 place front n.at n.rest.now met
    fault (drafted c.add_line.new.self.rack) (noted c.note.new.self) took)

pub loop-record-preserved : goal.loop-record-preserved
loop-record-preserved c =
    let w = c.args.walker.now in
    let a = c.loop-record.ahead in
    let n = c.next.new.self in
    let place = c.in-Some.record.at in
    let front = c.in-Some.record.bytes.now in
    let met : Met a.at a.rest.now place front n.at n.rest.now = MatchOption-at_some _ _ c.in-Some.record c.in-Some.is c.in_ok-record.ensures in
    let stage = drafted c.loop-record.draft.rack in
    let lines = noted c.loop-record.journal in
    let next = drafted c.add_line.new.self.rack in
    let lines' = noted c.note.new.self in
    let took : Took stage lines place front (Ok tt) next lines' =
    line_took c.loop-record.draft.rack c.add_line.new.self.rack (noted c.loop-record.journal) (noted c.note.new.self) place front c.in-Some-2.number c.in-Some-2.line c.add_line.result (Ok tt)
    (ap Ok (sym c.in-Some-2.is) ∙ c.in_ok-number.ensures) c.add_line.ensures.told c.add_line.ensures.rack c.in_ok-note.ensures.told c.in_ok-note.ensures.lines in (
      leads_on (noted c.args.journal.now) (drafted c.args.draft.now.rack) w.at w.rest.now
          (noted c.loop-record.journal) (drafted c.loop-record.draft.rack) a.at a.rest.now c.loop-record.invariant.0 c.loop-record.invariant.1 place front n.at n.rest.now met next lines' took,
      fitting_on stage lines a.at place a.rest.now front n.at n.rest.now c.loop-record.invariant.1 met next lines' took,
      refl,
      refl,
    )

pub returns : goal.returns
returns c =
    let w = c.args.walker.now in
    let a = c.loop-record.ahead in
    let n = c.next.new.self in
    let o = c.loop-record.walker in
    let at_end : Ended a.at a.rest.now n.at n.rest.now = MatchOption-at_none _ _ c.in_default.is c.in_ok-record.ensures in
    handed_at_end (noted c.args.journal.now) (drafted c.args.draft.now.rack) w.at w.rest.now
    (noted c.loop-record.journal) c.loop-record.draft.rack a.at a.rest.now c.loop-record.invariant.0 c.loop-record.invariant.1
    o.at o.rest.now c.loop-record.invariant.2 c.loop-record.invariant.3 n.at n.rest.now at_end
