-- The limits of the arrival kinds' numbers, each named once.
use Rattle.std.specs.Prelude.{ℕ}

-- the longest window that a kind tells its own bound for
abbrev pub longest : ℕ
longest = 1000000

-- no bound is larger
abbrev pub most : ℕ
most = 1500000

-- a message: its period and its gap are at least 1, its jitter at least 0, its cells at least 1
abbrev pub longest_period : ℕ
longest_period = 200000

abbrev pub largest_jitter : ℕ
largest_jitter = 100000

abbrev pub most_cells : ℕ
most_cells = 256

abbrev pub longest_gap : ℕ
longest_gap = 200000

-- a bucket: its burst and its interval are at least 1
abbrev pub largest_burst : ℕ
largest_burst = 4096

abbrev pub longest_interval : ℕ
longest_interval = 200000
