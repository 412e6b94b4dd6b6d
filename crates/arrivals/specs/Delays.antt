-- What a delayed kind means: the bound of a window that is longer by the delay.
use Rattle.std.specs.Prelude.{ℕ, ◌+◌, min, cond, ◌==◌}
use Rattle.arrivals.specs.Limits.{longest}

abbrev pub delayed : (ℕ → ℕ) → ℕ → ℕ → ℕ
delayed α j w = cond (w == 0) 0 (α (min (w + j) longest))
