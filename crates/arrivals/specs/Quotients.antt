-- Laws of quotients that the kinds' laws rest on. Assumes nothing.
use Rattle.std.specs.Prelude.{◌≡◌, ℕ, ◌+◌, ◌-◌, ◌*◌, ◌/◌, ◌%◌, ◌<◌, ◌≤◌, min, cond, ◌==◌}
use Rattle.std.proofs.Common.{arith, div-mul-le_self, add-mul, one-mul, mul-one, mul-le-mul_left, ap, sym, ◌∙◌, inl, inr}
use Rattle.std.proofs.lemmas.Bool.Decides.{nat_tests}
use Rattle.std.proofs.lemmas.Nat.{le-div, div_below, div-add-mod', div-mul-add, mod_below}
use Rattle.std.proofs.lemmas.Bool.{cases_lt}
use Rattle.arrivals.specs.Messages.{rounded_up}

-- a quotient never falls as what is divided grows
pub div_rises : (a b k : ℕ) → 1 ≤ k → a ≤ b → a / k ≤ b / k
div_rises a b k pos h = le-div (a / k) b k pos (omega (arith, div-mul-le_self a k))

le_mul : (r g : ℕ) → 1 ≤ g → r ≤ r * g
le_mul r g pos = omega (arith, mul-le-mul_left {m = 1} {n = g} r pos, mul-one r)

-- rounded up, a quotient is at most what is divided
pub rounded_up_le : (r g : ℕ) → 1 ≤ g → rounded_up r g ≤ r
rounded_up_le r g pos =
    let s : r + (g - 1) < (r + 1) * g = omega (arith, add-mul r 1 g, one-mul g, le_mul r g pos) in
    let q : rounded_up r g < r + 1 = div_below (r + (g - 1)) g (r + 1) pos s in
    omega arith

-- and at least 1, unless that is 0
pub rounded_up_some : (r g : ℕ) → 1 ≤ g → 1 ≤ r → 1 ≤ rounded_up r g
rounded_up_some r g pos h = le-div 1 (r + (g - 1)) g pos (omega (arith, one-mul g))

pub rounded_up_rises : (r s g : ℕ) → 1 ≤ g → r ≤ s → rounded_up r g ≤ rounded_up s g
rounded_up_rises r s g pos h = div_rises (r + (g - 1)) (s + (g - 1)) g pos (omega arith)

-- what is 0 at the empty window rises where its other values do
pub windowed_rises : (a b v w : ℕ) → v ≤ w → a ≤ b → cond (v == 0) 0 a ≤ cond (w == 0) 0 b
windowed_rises a b v w h le = grind (arith, nat_tests)

-- what `div_ceil` answers
pub rounded_up_is : (r g : ℕ) → 1 ≤ g → r / g + min 1 (r % g) ≡ rounded_up r g
rounded_up_is r g pos =
    let whole : (r / g) * g + r % g ≡ r = div-add-mod' r g in
    let low : r % g < g = mod_below r g pos in
    elim (cases_lt 0 (r % g)) [
      | inl more ↦
          let up : (r / g + 1) * g + (r % g - 1) ≡ r + (g - 1) = omega (arith, add-mul (r / g) 1 g, one-mul g) in
          let q : ((r / g + 1) * g + (r % g - 1)) / g ≡ r / g + 1 = div-mul-add (r / g + 1) g (r % g - 1) (omega arith) in
          let e : rounded_up r g ≡ r / g + 1 = ap (λ n. n / g) (sym up) ∙ q in
          omega arith
      | inr none ↦
          let up : (r / g) * g + (g - 1) ≡ r + (g - 1) = omega arith in
          let q : ((r / g) * g + (g - 1)) / g ≡ r / g = div-mul-add (r / g) g (g - 1) (omega arith) in
          let e : rounded_up r g ≡ r / g = ap (λ n. n / g) (sym up) ∙ q in
          omega arith
    ]
