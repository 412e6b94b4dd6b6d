-- The check of a table has one answer: that it passes and that it is refused exclude each other, and so do two refusals.
use Rattle.std.specs.Prelude.{◌≡◌, ℕ, List, Result}
use Rattle.figures.specs.declared.racks.Rack.{Rack}
use Rattle.figures.specs.declared.streams.Stream.{Stream}
use Rattle.admission.specs.declared.faults.TableFault.{TableFault}
use Rattle.admission.specs.Checks.{CheckTold}

abbrev pub OneVerdict : Type 0 → Type 0
OneVerdict K =
    (α : K → ℕ → ℕ) (rack : Rack) (table : List (Stream K)) (r r' : Result (Unit {0}) TableFault)
    → CheckTold α rack table r → CheckTold α rack table r' → r ≡ r'
