-- Whether the fields of a stream keep their limits.
use Rattle.std.specs.Prelude.{ℕ, Bool, ◌&&◌, nat_le}
use Rattle.figures.specs.declared.streams.Stream.{Stream}
use Rattle.admission.specs.Limits.{last_stream, last_priority, last_line, latest_deadline}

abbrev pub within : ℕ → ℕ → ℕ → Bool
within low n high = nat_le low n && nat_le n high

-- each field of the stream keeps its limits
abbrev pub fields_within : {K : Type 0} → Stream K → Bool
fields_within s =
    within 1 s.number last_stream && (within 1 s.priority last_priority && (within 1 s.inbound last_line && (within 1 s.outbound last_line && within 1 s.deadline latest_deadline)))
