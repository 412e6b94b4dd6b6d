-- What the figures of a port rely on: the laws of the kinds, and that a load never falls as the window grows.
use Rattle.std.specs.Prelude.{◌≡◌, ℕ, ◌≤◌}
use Rattle.arrivals.specs.Limits.{longest, most}

abbrev pub Rising : (ℕ → ℕ) → Type 0
Rising f = (v w : ℕ) → v ≤ w → w ≤ longest → f v ≤ f w

-- α is the arrival bound of kinds that keep their laws
pub record Lawful {K : Type 0} (α : K → ℕ → ℕ) : Type 0 where
  pub none : (k : K) → α k 0 ≡ 0
  pub some : (k : K) → 1 ≤ α k 1
  pub rises : (k : K) → Rising (α k)
  pub small : (k : K) (w : ℕ) → w ≤ longest → α k w ≤ most

-- no number up to `high` that f leaves as it is lies below w, and f does not fall at w: one may go on looking from w
pub record Below (f : ℕ → ℕ) (high w : ℕ) : Type 0 where
  pub none_before : (v : ℕ) → v ≤ high → v ≡ f v → w ≤ v
  pub steps_up : w ≤ high → w ≤ f w
