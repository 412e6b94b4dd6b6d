-- A buffer with a text at its start.
use Rattle.std.specs.Prelude.{◌≡◌, ℕ, ◌<◌, ◌≤◌, List, ◌++◌, length, drop, Ok, Err, Result}
use Rattle.listing.specs.declared.listings.NoRoom.{NoRoom}

abbrev pub laid : List ℕ → List ℕ → List ℕ
laid text before = text ++ drop (length text) before

-- the text stands at the start, its length is told and the rest is as before; or it is longer than the buffer, which is as before
abbrev pub Wrote : List ℕ → List ℕ → Result ℕ NoRoom → List ℕ → Type 0
Wrote before text (Ok n) after = (n ≡ length text) × (n ≤ length before) × (after ≡ laid text before)
Wrote before text (Err e) after = (length before < length text) × (after ≡ before)
