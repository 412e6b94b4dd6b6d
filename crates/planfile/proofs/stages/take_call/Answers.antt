use Rattle.std.proofs.Common.{Err, sym, refl, ap, ◌∙◌, subst}
use Rattle.std.proofs.lemmas.Result.{err_from_is_err_and}
use Rattle.records.specs.Records.{state_of}
use Rattle.planfile.specs.Points.{Took, noted}
use Rattle.planfile.specs.Stages.{networked}
use Rattle.planfile.proofs.Records.{is_a_call}
use Rattle.planfile.proofs.Taking.{misread_took, took}
use Rattle.planfile.proofs.stages.take_call.Goals as goal

pub returns-in_err-what : goal.returns-in_err-what
returns-in_err-what c =
    let p = err_from_is_err_and c.from_residual.result c.from_residual.ensures.1 in
    let st = networked (state_of c.args.admitted.now.network.records) in
    let lines = noted c.args.journal.now in
    subst (λ x. Took st lines c.args.piece.at c.args.piece.bytes.now x st lines) (sym p.1)
    (misread_took st c.args.piece.at c.args.piece.bytes.now p.0 st lines (sym c.in_err-what.ensures ∙ ap Err (sym p.2)))

pub call-requires : goal.call-requires
call-requires c = is_a_call c.args.piece.at c.args.piece.bytes.now c.in_ok-what.what (sym c.in_ok-what.ensures)

pub returns : goal.returns
returns c =
    let next = state_of c.call.new.admitted.network.records in
    took (networked (state_of c.args.admitted.now.network.records)) c.args.piece.at c.args.piece.bytes.now c.in_ok-what.what c.call.result
    (networked next) (noted c.args.journal.now) (noted c.note.new.self) c.note.result
    (sym c.in_ok-what.ensures) (λ room. (next, c.call.ensures, refl)) c.note.ensures.told c.note.ensures.lines
