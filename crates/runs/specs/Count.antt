-- How many of the numbers below n pass a test.
use Rattle.std.specs.Prelude.{ℕ, zero, suc, ◌+◌, Bool, cond, ◌&&◌, nat_le, nat_lt}

unfoldable pub count : (ℕ → Bool) → ℕ → ℕ
count p zero = 0
count p (suc n) = cond (p n) 1 0 + count p n

-- k passes p, and its time is in [low, high)
unfoldable pub during : (ℕ → Bool) → (ℕ → ℕ) → ℕ → ℕ → ℕ → Bool
during p time low high k = p k && (nat_le low (time k) && nat_lt (time k) high)

-- how many k below n do
abbrev pub number : ℕ → (ℕ → Bool) → (ℕ → ℕ) → ℕ → ℕ → ℕ
number n p time low high = count (during p time low high) n
