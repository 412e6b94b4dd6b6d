-- The limits of the fields of lines, streams and calls, each named once; every field is at least 1, but for the
-- switch times and the propagation.
use Rattle.std.specs.Prelude.{ℕ}

abbrev pub last_stream : ℕ
last_stream = 60000

abbrev pub last_priority : ℕ
last_priority = 255

abbrev pub last_line : ℕ
last_line = 16

abbrev pub latest_deadline : ℕ
latest_deadline = 500000

abbrev pub most_places : ℕ
most_places = 4000
