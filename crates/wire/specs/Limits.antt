-- The limit of a plan file.
use Rattle.std.specs.Prelude.{ℕ}

-- a file has no more bytes
abbrev pub longest_file : ℕ
longest_file = 8000
