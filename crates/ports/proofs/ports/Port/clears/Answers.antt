use Rattle.std.proofs.Common.{◌≡◌, ◌≤◌, ◌+◌, ◌-◌, ◌*◌, ◌/◌, ◌<◌, min, ap, subst, sym, arith}
use Rattle.arrivals.specs.Limits.{longest}
use Rattle.ports.specs.Port.{Clears}
use Rattle.ports.proofs.Busy.{not_clear, clear_later}
use Rattle.ports.proofs.ports.Port.clears.Given as given
use Rattle.ports.proofs.ports.Port.clears.Goals as goal

busy : (g : given.Over) (c : goal.Else-cells-saturating_sub g) → (c.loop-u.u + 1 - c.from-cell.result) / c.from-cell.result < c.from-cells.result
busy g c = rw c.saturating_sub.ensures at c.if-cells-saturating_sub.false

pub loop-u-preserved : goal.loop-u-preserved
loop-u-preserved g c =
    let C = c.from-cell.result in
    let G = g.L.Load.load c.args.self.now.load in
    let u = c.loop-u.u in
    let pos : 1 ≤ C = omega arith in
    let left = busy g c in
    let m : min u longest ≡ u = omega arith in
    let n : c.from-cells.result ≡ G u = omega (arith, ap G m) in
    let same : c.from-cells.result * C ≡ G u * C = ap (λ x. x * C) n in (
      omega (arith, not_clear C pos c.from-cells.result u left),
      λ v le clear.
          omega (arith, clear_later C pos G (c.args.self.now.rising) u (omega arith) (omega arith) v le (c.loop-u.invariant.1 v le clear) (subst (λ x. Clears x G v) (sym c.from-cell.ensures) clear)),
    )
