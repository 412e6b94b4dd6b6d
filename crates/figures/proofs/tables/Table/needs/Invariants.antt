use Rattle.std.proofs.Common.{◌≡◌, ℕ, ◌-◌, ◌<◌, ◌≤◌, length, get_or, None, Ok}
use Rattle.figures.specs.Told.{NeedToldFor}
use Rattle.figures.proofs.tables.Table.needs.Given as goal

abbrev pub invariant-loop-number : goal.invariant-loop-number
invariant-loop-number g l =
    (length l.needs ≡ 16)
    × ((m : ℕ) → 1 ≤ m → m < l.number → NeedToldFor g.K.Arrival.alpha l.self.rack.now l.self.streams.now l.delays.q1 m (Ok (get_or l.needs (m - 1) None)))
