-- The least number that has a property, and the largest value of a function: the words in which figures are looked for.
use Rattle.std.specs.Prelude.{◌≡◌, ℕ, ◌≤◌, Some, None, Option}

-- n has P, and no smaller number has
pub record Least (P : ℕ → Type 0) (n : ℕ) : Type 0 where
  pub has : P n
  pub first : (m : ℕ) → P m → n ≤ m

-- the least number that has P, where it is at most high, or none where no number up to high has P
abbrev pub Found : (ℕ → Type 0) → ℕ → Option ℕ → Type 0
Found P high None = (m : ℕ) → m ≤ high → P m → ⊥
Found P high (Some n) = (n ≤ high) × Least P n

-- n is the largest f k for k from low to high, and it is met at `at`
pub record Largest (f : ℕ → ℕ) (low high n : ℕ) : Type 0 where
  pub bounds : (k : ℕ) → low ≤ k → k ≤ high → f k ≤ n
  pub at : ℕ
  pub from : low ≤ at
  pub to : at ≤ high
  pub met : f at ≡ n
