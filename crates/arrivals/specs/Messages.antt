-- What a message means: how many of its cells may be queued in a window.
use Rattle.std.specs.Prelude.{ℕ, ◌+◌, ◌-◌, ◌*◌, ◌/◌, ◌%◌, ◌≤◌, min, Bool, cond, ◌&&◌, Ok, Err, Result, ◌==◌, nat_le}
use Rattle.arrivals.specs.declared.faults.KindFault.{KindFault}
use Rattle.arrivals.specs.declared.faults.KindFault.TheVariants.{OutsideLimits, Overfull}
use Rattle.arrivals.specs.declared.messages.Message.{Message}
use Rattle.arrivals.specs.Limits.{longest_period, largest_jitter, most_cells, longest_gap}

-- each number keeps its limits
abbrev pub within : ℕ → ℕ → ℕ → ℕ → Bool
within t j n g =
    nat_le 1 t && nat_le t longest_period && nat_le j largest_jitter && nat_le 1 n && nat_le n most_cells && nat_le 1 g && nat_le g longest_gap

-- what making a message of four numbers answers
abbrev pub made : ℕ → ℕ → ℕ → ℕ → Result Message KindFault
made t j n g =
    cond (within t j n g)
    (cond (nat_le (n * g) t) (Ok (record { period = t; jitter = j; cells = n; gap = g })) (Err Overfull))
    (Err OutsideLimits)

-- what every message keeps
pub record Kept (m : Message) : Type 0 where
  pub period_low : 1 ≤ m.period
  pub period_high : m.period ≤ longest_period
  pub jitter_high : m.jitter ≤ largest_jitter
  pub cells_low : 1 ≤ m.cells
  pub cells_high : m.cells ≤ most_cells
  pub gap_low : 1 ≤ m.gap
  pub gap_high : m.gap ≤ longest_gap
  pub fits : m.cells * m.gap ≤ m.period

-- numbers that break a limit mean the message of one cell in each tick
abbrev pub meaning : Message → Message
meaning m =
    cond (within m.period m.jitter m.cells m.gap && nat_le (m.cells * m.gap) m.period)
    m
    (record { period = 1; jitter = 0; cells = 1; gap = 1 })

-- the quotient, rounded up
abbrev pub rounded_up : ℕ → ℕ → ℕ
rounded_up r g = (r + (g - 1)) / g

-- the cells of x ticks that begin with a period: those of the whole periods, and those of the begun one
abbrev pub cells_in : Message → ℕ → ℕ
cells_in m x = (x / m.period) * m.cells + min m.cells (rounded_up (x % m.period) m.gap)

abbrev pub message_alpha : Message → ℕ → ℕ
message_alpha m w = cond (w == 0) 0 (cells_in (meaning m) (w + (meaning m).jitter))
