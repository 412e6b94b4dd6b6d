-- What a choice means: the kind that it holds.
use Rattle.std.specs.Prelude.{ℕ}
use Rattle.arrivals.specs.declared.choices.Choice.{Choice}
use Rattle.arrivals.specs.declared.choices.Choice.TheVariants.{First, Second}

abbrev pub chosen : {A B : Type 0} → (A → ℕ → ℕ) → (B → ℕ → ℕ) → Choice A B → ℕ → ℕ
chosen α β (First a) w = α a w
chosen α β (Second b) w = β b w
