use Rattle.std.proofs.Common.{◌≡◌, ◌+◌, ◌∷◌, ◌++◌, get_or, take, drop, set, sym, ap, ◌∙◌, subst, arith}
use Rattle.std.specs.List.{remove}
use Rattle.records.proofs.Filing.{same_length, if_failed}
use Rattle.records.proofs.TakenOut.{out}
use Rattle.records.proofs.Undo.{undone}
use Rattle.records.proofs.lent.LentTable.try_file.Goals as goal

pub bounds-self-len-then-is_err : goal.bounds-self-len-then-is_err
bounds-self-len-then-is_err g c =
    let t = c.args.self.now in
    let filed = c.insert.new.self in
    let long = same_length t.memory.now filed.memory.now t.len c.args.at c.args.stream c.requires.inside.0 c.requires.inside.1 c.insert.ensures.memory in
    let back = out filed.memory.now c.remove.new.self.memory.now filed.len c.args.at (omega (arith, c.requires.inside.0, c.insert.ensures.len)) filed.inside c.remove.ensures.memory in
    omega (arith, back.long, long, c.requires.inside.1)

pub returns-then-is_err-clause-memory : goal.returns-then-is_err-clause-memory
returns-then-is_err-clause-memory g c =
    let t = c.args.self.now in
    let m = t.memory.now in
    let n = c.insert.new.self.memory.now in
    let o = c.remove.new.self.memory.now in
    let gone : o ≡ remove (take (t.len + 1) n) c.args.at ++ get_or n c.args.at c.args.stream ∷ drop (t.len + 1) n =
    subst (λ k. o ≡ remove (take k n) c.args.at ++ get_or n c.args.at c.args.stream ∷ drop k n) c.insert.ensures.len (c.remove.ensures.memory c.args.stream) in
    ap (set o t.len) (sym c.index-self-len.is)
    ∙ (undone m n o t.len c.args.at c.args.stream c.index-self-len.result c.requires.inside.0 c.requires.inside.1 c.insert.ensures.memory gone c.index-self-len.is
    ∙ sym (if_failed c.check-verdict.result _ _ (sym c.if-is_err.ensures.value)))
