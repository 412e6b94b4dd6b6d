-- The figures of one port, whatever its streams are: how long a cell waits there, and how many places it needs.
-- C is the cell time. In any w ticks the stream in question queues at most α w cells at the port, the streams
-- of higher priority together at most β w, and all its streams together at most G w.
use Rattle.std.specs.Prelude.{◌≡◌, ℕ, ◌+◌, ◌-◌, ◌*◌, ◌/◌, ◌<◌, ◌≤◌, Some, None, Option}
use Rattle.arrivals.specs.Least.{Least, Found, Largest}
use Rattle.ports.specs.Limits.{horizon}

-- the ticks that go before the start of the cell k of a busy period, counted from 0, if it starts after w ticks:
-- the rest of a dump, k cells of its own stream, and the cells of higher priority queued by then
abbrev pub ahead : ℕ → (ℕ → ℕ) → ℕ → ℕ → ℕ
ahead C β k w = (C - 1) + k * C + C * β (w + 1)

abbrev pub Starts : ℕ → (ℕ → ℕ) → ℕ → ℕ → Type 0
Starts C β k w = w ≡ ahead C β k w

-- the wait w_k: the least w up to the horizon at which the cell k starts
abbrev pub Wait : ℕ → (ℕ → ℕ) → ℕ → Option ℕ → Type 0
Wait C β k = Found (Starts C β k) horizon

-- the cell k may have been queued d ticks after the first one
abbrev pub Queued : (ℕ → ℕ) → ℕ → ℕ → Type 0
Queued α k d = k + 1 ≤ α (d + 1)

-- q is the port delay: the largest wait of a cell k less the earliest tick e_k that it can be queued at, for k up to
-- the last cell of a busy period, the first k by whose start no more than k + 1 cells can have been queued
pub record Delay (C : ℕ) (α β : ℕ → ℕ) (q : ℕ) : Type 0 where
  pub wait : ℕ → ℕ
  pub early : ℕ → ℕ
  pub last : ℕ
  pub waits : (k : ℕ) → k ≤ last → Wait C β k (Some (wait k))
  pub comes : (k : ℕ) → k ≤ last → Least (Queued α k) (early k)
  pub stops : Least (λ k. α (wait k + 1) ≤ k + 1) last
  pub worst : Largest (λ k. wait k - early k) 0 last q

-- there is no port delay: some cell of a busy period has no wait
pub record NoDelay (C : ℕ) (α β : ℕ → ℕ) : Type 0 where
  pub wait : ℕ → ℕ
  pub cell : ℕ
  pub waits : (k : ℕ) → k < cell → Wait C β k (Some (wait k))
  pub goes_on : (k : ℕ) → k < cell → k + 1 < α (wait k + 1)
  pub endless : Wait C β cell None

abbrev pub PortDelay : ℕ → (ℕ → ℕ) → (ℕ → ℕ) → Option ℕ → Type 0
PortDelay C α β (Some q) = Delay C α β q
PortDelay C α β None = NoDelay C α β

-- u ticks after a busy period begins, all cells queued by then can have been sent, behind a dump
abbrev pub Clears : ℕ → (ℕ → ℕ) → ℕ → Type 0
Clears C G u = (1 ≤ u) × (G u ≤ (u + 1 - C) / C)

-- the cells that may hold a place u ticks after a busy period begins: those queued by then, less those sent
abbrev pub holding : ℕ → (ℕ → ℕ) → ℕ → ℕ
holding C G u = G u - ((u - C) / C)

-- n is the need: the most cells that may hold a place, up to the least u that clears the port
pub record Need (C : ℕ) (G : ℕ → ℕ) (n : ℕ) : Type 0 where
  pub until : ℕ
  pub clears : Found (Clears C G) horizon (Some until)
  pub worst : Largest (holding C G) 1 until n

abbrev pub PortNeed : ℕ → (ℕ → ℕ) → Option ℕ → Type 0
PortNeed C G (Some n) = Need C G n
PortNeed C G None = Found (Clears C G) horizon None
