-- The limits of the rack's numbers, each named once; those of a port's are in the crate ports.
use Rattle.std.specs.Prelude.{ℕ}

abbrev pub longest_switch : ℕ
longest_switch = 1000

abbrev pub longest_propagation : ℕ
longest_propagation = 10000

-- a table has no more streams
abbrev pub most_streams : ℕ
most_streams = 64
