use Rattle.std.proofs.Common.{max, sym, ap, ◌∙◌, subst}
use Rattle.ports.proofs.Busy.{Scanned, scanned_first, scanned_next}
use Rattle.ports.proofs.ports.Port.most_held.Goals as goal

pub loop-u-init : goal.loop-u-init
loop-u-init g c =
    let C = c.args.self.now.cell_time in
    let G = g.L.Load.load c.args.self.now.load in
    subst (λ n. Scanned C G c.args.until c.min-u.result n) (sym c.held-most.ensures)
    (scanned_first C c.args.self.now.cell.0 G (c.args.self.now.rising) c.args.until c.requires.0 c.requires.1 c.min-u.result c.min-u.ensures)

pub loop-u-preserved : goal.loop-u-preserved
loop-u-preserved g c =
    let C = c.args.self.now.cell_time in
    let G = g.L.Load.load c.args.self.now.load in
    let n = c.min-u-in-loop-u.result in
    subst (λ x. Scanned C G c.args.until n x) (sym (c.max-most.ensures ∙ ap (max c.loop-u.most) c.held.ensures))
    (scanned_next C c.args.self.now.cell.0 G (c.args.self.now.rising) c.args.until c.requires.0 c.requires.1 c.loop-u.u c.loop-u.most c.loop-u-test.true c.loop-u.invariant n c.min-u-in-loop-u.ensures)
