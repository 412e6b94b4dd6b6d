use Rattle.std.proofs.Common.{◌≡◌, ℕ, ◌+◌, ◌≤◌, min, subst, arith}
use Rattle.arrivals.specs.Limits.{longest}
use Rattle.ports.specs.Limits.{horizon}
use Rattle.ports.proofs.Walk.{walk_none, walk_more, walk_ends}
use Rattle.ports.proofs.ports.Port.delay.Goals as goal

-- what a load answers for the window w + 1 is its value there
at_is : (f : ℕ → ℕ) (w r : ℕ) → w ≤ horizon → r ≡ f (min (w + 1) longest) → r ≡ f (w + 1)
at_is f w r near e =
    let m : min (w + 1) longest ≡ w + 1 = omega arith in
    subst (λ x. r ≡ f x) m e

pub loop-index-init : goal.loop-index-init
loop-index-init g c = walk_none c.requires.some (c.requires.rising) (c.args.self.now.rising)

pub returns-then-at-index : goal.returns-then-at-index
returns-then-at-index g c =
    let s = c.in_ok-w.ensures in
    let n : c.at.result ≡ g.A.Load.load c.args.own.now (c.in_ok-w.w + 1) = at_is (g.A.Load.load c.args.own.now) _ _ s.0 c.at.ensures in
    rw c.max-worst.ensures
    (walk_ends c.requires.some (c.requires.rising) (c.args.self.now.rising) c.loop-index.invariant s c.earliest-early.ensures (omega arith))

pub loop-index-preserved : goal.loop-index-preserved
loop-index-preserved g c =
    let s = c.in_ok-w.ensures in
    let n : c.at.result ≡ g.A.Load.load c.args.own.now (c.in_ok-w.w + 1) = at_is (g.A.Load.load c.args.own.now) _ _ s.0 c.at.ensures in
    rw c.max-worst.ensures
    (walk_more c.requires.some (c.requires.rising) (c.args.self.now.rising) c.loop-index.invariant s c.earliest-early.ensures (omega arith))
