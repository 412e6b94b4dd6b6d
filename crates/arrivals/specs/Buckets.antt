-- What a bucket means: how many of its cells may be queued in a window.
use Rattle.std.specs.Prelude.{ℕ, ◌+◌, ◌-◌, ◌/◌, ◌≤◌, Bool, cond, ◌&&◌, Ok, Err, Result, ◌==◌, nat_le}
use Rattle.arrivals.specs.declared.faults.KindFault.{KindFault}
use Rattle.arrivals.specs.declared.faults.KindFault.TheVariants.{OutsideLimits}
use Rattle.arrivals.specs.declared.buckets.Bucket.{Bucket}
use Rattle.arrivals.specs.Limits.{largest_burst, longest_interval}

-- each number keeps its limits
abbrev pub within : ℕ → ℕ → Bool
within s i = nat_le 1 s && nat_le s largest_burst && nat_le 1 i && nat_le i longest_interval

-- what making a bucket of two numbers answers
abbrev pub made : ℕ → ℕ → Result Bucket KindFault
made s i = cond (within s i) (Ok (record { burst = s; interval = i })) (Err OutsideLimits)

-- what every bucket keeps
pub record Kept (b : Bucket) : Type 0 where
  pub burst_low : 1 ≤ b.burst
  pub burst_high : b.burst ≤ largest_burst
  pub interval_low : 1 ≤ b.interval
  pub interval_high : b.interval ≤ longest_interval

-- numbers that break a limit mean the bucket of one cell in each tick
abbrev pub meaning : Bucket → Bucket
meaning b = cond (within b.burst b.interval) b (record { burst = 1; interval = 1 })

abbrev pub bucket_alpha : Bucket → ℕ → ℕ
bucket_alpha b w = cond (w == 0) 0 ((meaning b).burst + (w - 1) / (meaning b).interval)
