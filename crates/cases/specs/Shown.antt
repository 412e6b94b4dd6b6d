-- What a buffer shows after a call.
use Rattle.std.specs.Prelude.{◌≡◌, ℕ, ◌<◌, List, length, slice_index, slice_index_or}

-- the text at its start, and behind it the bytes that it was filled with
abbrev pub Shown : List ℕ → List ℕ → Type 0
Shown out text = (k : ℕ) → k < length out → slice_index out k ≡ slice_index_or text k 165
