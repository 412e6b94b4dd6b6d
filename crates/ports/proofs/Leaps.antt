-- The least fixed point of a function that never falls, by steps from below.
use Rattle.std.proofs.Common.{◌≡◌, ℕ, zero, suc, ◌+◌, ◌<◌, ◌≤◌, inl, inr, add-mul, mul-le-mul_left, one-mul, arith}
use Rattle.std.proofs.lemmas.Bool.{cases_lt}
use Rattle.arrivals.specs.Limits.{longest}
use Rattle.ports.specs.Limits.{horizon}
use Rattle.ports.specs.Loads.{Rising, Below}
use Rattle.ports.specs.Port.{ahead}

-- a step from below stays below
pub below_step : (f : ℕ → ℕ) (high : ℕ) → ((v w : ℕ) → v ≤ w → w ≤ high → f v ≤ f w) → (w n : ℕ) → w ≤ high → n ≡ f w → Below f high w → Below f high n
below_step f high rises w n h e below = record {
  none_before = λ v le fixed. omega (arith, rises w v (below.none_before v le fixed) le);
  steps_up = λ le. omega (arith, rises w n (omega (arith, below.steps_up h)) le);
}

-- under a number that a step does not raise lies a fixed point
pub fixed_under : (f : ℕ → ℕ) (high : ℕ) → ((v w : ℕ) → v ≤ w → w ≤ high → f v ≤ f w) → (n w : ℕ) → w ≤ n → w ≤ high → f w ≤ w → (v : ℕ) × (v ≤ w) × (v ≡ f v)
fixed_under f high rises zero w n h le = (w, omega arith, omega arith)
fixed_under f high rises (suc n) w m h le =
    elim (cases_lt (f w) w) [
      | inl falls ↦
          let u = fixed_under f high rises n (f w) (omega arith) (omega arith) (rises (f w) w le h) in
          (u.0, omega (arith, u.1), u.2)
      | inr stays ↦ (w, omega arith, omega arith)
    ]

module _ (C : ℕ) (β : ℕ → ℕ) (rising : Rising β) where
  -- the longer a cell has waited, the more goes before it
  pub ahead_rises : (k v w : ℕ) → v ≤ w → w < longest → ahead C β k v ≤ ahead C β k w
  ahead_rises k v w h long = omega (arith, mul-le-mul_left C (rising (v + 1) (w + 1) (omega arith) (omega arith)))

  pub ahead_rises_near : (k v w : ℕ) → v ≤ w → w ≤ horizon → ahead C β k v ≤ ahead C β k w
  ahead_rises_near k v w h near = ahead_rises k v w h (omega arith)

-- the next cell has a cell time more before it
pub ahead_more : (C : ℕ) (β : ℕ → ℕ) (k w : ℕ) → ahead C β (k + 1) w ≡ ahead C β k w + C
ahead_more C β k w = omega (arith, add-mul k 1 C, one-mul C)
