use Rattle.std.proofs.Common.{◌≡◌, ℕ, ◌+◌, ◌<◌, length, get_or, Some, None}
use Rattle.figures.proofs.tables.Table.late.Given as goal

abbrev pub invariant-loop-place : goal.invariant-loop-place
invariant-loop-place g l =
    (length l.late ≡ 64) × ((j : ℕ) → j < l.place → get_or l.late j None ≡ Some (get_or l.q1 j 0 + l.spread))
