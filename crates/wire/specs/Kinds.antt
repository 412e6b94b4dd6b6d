-- What the own bytes of each arrival kind say: the place and the width of each of its fields.
use Rattle.std.specs.Prelude.{ℕ, List, Result}
use Rattle.arrivals.specs.declared.buckets.Bucket.{Bucket}
use Rattle.arrivals.specs.declared.faults.KindFault.{KindFault}
use Rattle.arrivals.specs.declared.messages.Message.{Message}
use Rattle.arrivals.specs.Buckets as bucket
use Rattle.arrivals.specs.Messages as message
use Rattle.wire.specs.Bytes.{number_at}

-- T in four bytes, J in four, N in two, g in four
abbrev pub message_of : List ℕ → Result Message KindFault
message_of own = message.made (number_at own 0 4) (number_at own 4 4) (number_at own 8 2) (number_at own 10 4)

-- the burst in two bytes, the interval in four
abbrev pub bucket_of : List ℕ → Result Bucket KindFault
bucket_of own = bucket.made (number_at own 0 2) (number_at own 2 4)
