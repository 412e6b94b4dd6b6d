use Rattle.std.proofs.Common.{arith}
use Rattle.std.proofs.lemmas.Option.{MatchOption-at_none, MatchOption-at_some}
use Rattle.std.proofs.lemmas.Result.{err_from_is_err_and}
use Rattle.records.specs.Records.{state_of}
use Rattle.wire.specs.Walks.{Ended, Met}
use Rattle.planfile.specs.Points.{noted}
use Rattle.planfile.specs.Stages.{networked}
use Rattle.planfile.proofs.Reached.{cut_stops, end_ends, fitting_on, leads_on, met_length, took_stops}
use Rattle.planfile.proofs.readers.run.Goals as goal

pub returns-in_err-record : goal.returns-in_err-record
returns-in_err-record c =
    let p = err_from_is_err_and c.from_residual.result c.from_residual.ensures.1 in
    let w = c.args.walker in
    let a = c.loop-record.ahead in
    rw (p.1, p.2)
    (cut_stops (noted c.args.journal.now) (networked (state_of c.args.admitted.now.network.records)) w.at w.rest.now
    (noted c.loop-record.journal) (networked (state_of c.loop-record.admitted.network.records)) a.at a.rest.now c.loop-record.invariant.0 c.loop-record.invariant.1
    _ _ _ c.in_err-record.ensures)

pub loop-record-smaller : goal.loop-record-smaller
loop-record-smaller c =
    let met = MatchOption-at_some _ _ c.in-Some.record c.in-Some.is c.in_ok-record.ensures in
    omega (arith, (met_length _ _ _ _ _ _ met).0)

pub loop-record-preserved : goal.loop-record-preserved
loop-record-preserved c =
    let w = c.args.walker in
    let a = c.loop-record.ahead in
    let n = c.next.new.self in
    let lines = noted c.loop-record.journal in
    let stage = networked (state_of c.loop-record.admitted.network.records) in
    let lines' = noted c.take_call.new.journal in
    let next = networked (state_of c.take_call.new.admitted.network.records) in
    let place = c.in-Some.record.at in
    let front = c.in-Some.record.bytes.now in
    let met : Met a.at a.rest.now place front n.at n.rest.now = MatchOption-at_some _ _ c.in-Some.record c.in-Some.is c.in_ok-record.ensures in
    let took = c.in_ok-take_call.ensures in (
      leads_on (noted c.args.journal.now) (networked (state_of c.args.admitted.now.network.records)) w.at w.rest.now lines stage a.at a.rest.now
          c.loop-record.invariant.0 c.loop-record.invariant.1 place front n.at n.rest.now met next lines' took,
      fitting_on stage lines a.at place a.rest.now front n.at n.rest.now c.loop-record.invariant.1 met next lines' took,
    )

pub returns-in_err-take_call : goal.returns-in_err-take_call
returns-in_err-take_call c =
    let p = err_from_is_err_and c.from_residual-in_err-take_call.result c.from_residual-in_err-take_call.ensures.1 in
    let w = c.args.walker in
    let a = c.loop-record.ahead in
    let n = c.next.new.self in
    let place = c.in-Some.record.at in
    let front = c.in-Some.record.bytes.now in
    let met : Met a.at a.rest.now place front n.at n.rest.now = MatchOption-at_some _ _ c.in-Some.record c.in-Some.is c.in_ok-record.ensures in
    rw (p.1, p.2)
    (took_stops (noted c.args.journal.now) (networked (state_of c.args.admitted.now.network.records)) w.at w.rest.now
    (noted c.loop-record.journal) (networked (state_of c.loop-record.admitted.network.records)) a.at a.rest.now
    c.loop-record.invariant.0 c.loop-record.invariant.1 place front n.at n.rest.now met
    c.in_err-take_call.field-0.0 (networked (state_of c.take_call.new.admitted.network.records)) (noted c.take_call.new.journal) c.in_err-take_call.ensures)

pub returns : goal.returns
returns c =
    let w = c.args.walker in
    let a = c.loop-record.ahead in
    let n = c.next.new.self in
    let at_end : Ended a.at a.rest.now n.at n.rest.now = MatchOption-at_none _ _ c.in_default.is c.in_ok-record.ensures in
    end_ends (noted c.args.journal.now) (networked (state_of c.args.admitted.now.network.records)) w.at w.rest.now
    (noted c.loop-record.journal) (networked (state_of c.loop-record.admitted.network.records)) a.at a.rest.now c.loop-record.invariant.0 c.loop-record.invariant.1
    n.at n.rest.now at_end
