-- Numbers from bytes, the most significant byte first.
use Rattle.std.specs.Prelude.{ℕ, ◌+◌, ◌*◌, ◌^◌, List, [], ◌∷◌, length, take, drop}

abbrev pub be : List ℕ → ℕ
be [] = 0
be (b ∷ bs) = b * 256 ^ length bs + be bs

-- the number of the bytes from a place on, as many as the width says
abbrev pub number_at : List ℕ → ℕ → ℕ → ℕ
number_at bytes place width = be (take width (drop place bytes))
