-- How a plan file begins: with the version byte, 1, and then its records. It has at most 8,000 bytes.
use Rattle.std.specs.Prelude.{ℕ, cond, List, [], ◌∷◌, length, Ok, Err, Result, ◌==◌, nat_le}
use Rattle.wire.specs.declared.faults.FileFault.{FileFault}
use Rattle.wire.specs.declared.faults.FileFault.TheVariants.{TooLong, Version}
use Rattle.wire.specs.Limits.{longest_file}

-- what follows the version byte, or the fault
abbrev pub versioned : List ℕ → Result (List ℕ) FileFault
versioned [] = Err Version
versioned (version ∷ rest) = cond (version == 1) (Ok rest) (Err Version)

abbrev pub opening : List ℕ → Result (List ℕ) FileFault
opening bytes = cond (nat_le (length bytes) longest_file) (versioned bytes) (Err TooLong)
