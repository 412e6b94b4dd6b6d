-- The limits of a port's numbers, each named once.
use Rattle.std.specs.Prelude.{ℕ}

-- no wait and no busy period is looked for beyond it
abbrev pub horizon : ℕ
horizon = 200000

abbrev pub longest_cell : ℕ
longest_cell = 1000
