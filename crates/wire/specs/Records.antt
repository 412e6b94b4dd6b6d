-- What the bytes of a record say: its shape, by its code and its length, and then its values.
use Rattle.std.specs.Prelude.{ℕ, cond, List, [], ◌∷◌, length, drop, Some, None, Ok, Err, Option, Result, ◌==◌}
use Rattle.arrivals.specs.declared.buckets.Bucket.{Bucket}
use Rattle.arrivals.specs.declared.choices.Choice.{Choice}
use Rattle.arrivals.specs.declared.choices.Choice.TheVariants.{First, Second}
use Rattle.arrivals.specs.declared.faults.KindFault.{KindFault}
use Rattle.arrivals.specs.declared.messages.Message.{Message}
use Rattle.figures.specs.declared.racks.Side.{Side}
use Rattle.figures.specs.declared.racks.Side.TheVariants.{Inbound, Outbound}
use Rattle.figures.specs.declared.streams.Stream.{Stream}
use Rattle.admission.specs.declared.faults.TableFault.{TableFault}
use Rattle.admission.specs.declared.faults.TableFault.TheVariants.{OutsideLimits}
use Rattle.admission.specs.Faults.{of_kind}
use Rattle.admission.specs.Fields.{fields_within}
use Rattle.wire.specs.declared.faults.FileFault.{FileFault}
use Rattle.wire.specs.declared.faults.FileFault.TheVariants.{Malformed}
use Rattle.wire.specs.declared.records.Record.{Record}
use Rattle.wire.specs.declared.records.Record.TheVariants as said
use Rattle.wire.specs.declared.records.Shape.{Shape}
use Rattle.wire.specs.declared.records.Shape.TheVariants as shapes
use Rattle.wire.specs.Bytes.{number_at}
use Rattle.wire.specs.Faults.{with_place}
use Rattle.wire.specs.Kinds.{message_of, bucket_of}

-- the shape that a record's first byte, its code, stands for
abbrev pub coded : ℕ → Option Shape
coded code =
    cond (code == 1) (Some shapes.Hub)
    (cond (code == 2) (Some shapes.Line)
    (cond (code == 3) (Some shapes.Message)
    (cond (code == 4) (Some shapes.Bucket)
    (cond (code == 5) (Some shapes.Withdrawal)
    (cond (code == 6) (Some shapes.Places) None)))))

-- how many bytes follow the code
abbrev pub long_of : Shape → ℕ
long_of shapes.Hub = 4
long_of shapes.Line = 8
long_of shapes.Message = 23
long_of shapes.Bucket = 15
long_of shapes.Withdrawal = 2
long_of shapes.Places = 3

-- the shape of the record at a place, where its code is known and its length is that of its shape
abbrev pub shape_of : ℕ → List ℕ → Result Shape FileFault
shape_of at [] = Err (Malformed at)
shape_of at (code ∷ rest) =
    elim (coded code) [
      | Some shape ↦ cond (length rest == long_of shape) (Ok shape) (Err (Malformed at))
      | None ↦ Err (Malformed at)
    ]

abbrev pub side_of : ℕ → Option Side
side_of byte = cond (byte == 0) (Some Inbound) (cond (byte == 1) (Some Outbound) None)

-- a line: its number, its side, the cell time, the propagation, the places
abbrev pub line_of : {K : Type 0} → List ℕ → Result (Record K) TableFault
line_of rest =
    elim (side_of (number_at rest 1 1)) [
      | Some side ↦ Ok (said.Line (number_at rest 0 1) (record { side = side; cell_time = number_at rest 2 2; propagation = number_at rest 4 2; places = number_at rest 6 2 }))
      | None ↦ Err OutsideLimits
    ]

-- the fields that every stream has: its number, its priority, its lines, its deadline
abbrev pub fields_of : List ℕ → Stream Unit
fields_of rest =
    record { number = number_at rest 0 2; priority = number_at rest 2 1; inbound = number_at rest 3 1; outbound = number_at rest 4 1; deadline = number_at rest 5 4; kind = tt }

abbrev pub with_kind : {F K : Type 0} → (F → K) → Stream F → Stream K
with_kind f s =
    record { number = s.number; priority = s.priority; inbound = s.inbound; outbound = s.outbound; deadline = s.deadline; kind = f s.kind }

-- a stream, where its fields keep their limits: then its kind is what the own bytes say
abbrev pub stream_of : {K : Type 0} → (List ℕ → Result K KindFault) → List ℕ → Result (Stream K) TableFault
stream_of filed rest =
    cond (fields_within (fields_of rest))
    (elim (filed (drop 9 rest)) [
      | Ok kind ↦ Ok (with_kind (λ _. kind) (fields_of rest))
      | Err fault ↦ Err (of_kind fault)
    ])
    (Err OutsideLimits)

abbrev pub filing : {F K : Type 0} → (F → K) → Result (Stream F) TableFault → Result (Record K) TableFault
filing f (Ok stream) = Ok (said.Stream (with_kind f stream))
filing f (Err fault) = Err fault

-- the values of a record of a shape, from what follows its code
abbrev pub values_of : Shape → List ℕ → Result (Record (Choice Message Bucket)) TableFault
values_of shapes.Hub rest = Ok (said.Hub (number_at rest 0 2) (number_at rest 2 2))
values_of shapes.Line rest = line_of rest
values_of shapes.Message rest = filing First (stream_of message_of rest)
values_of shapes.Bucket rest = filing Second (stream_of bucket_of rest)
values_of shapes.Withdrawal rest = Ok (said.Withdrawal (number_at rest 0 2))
values_of shapes.Places rest = Ok (said.Places (number_at rest 0 1) (number_at rest 1 2))

-- what the record at a place says
abbrev pub record_of : ℕ → List ℕ → Result (Record (Choice Message Bucket)) FileFault
record_of at bytes =
    elim (shape_of at bytes) [
      | Ok shape ↦ with_place at (values_of shape (drop 1 bytes))
      | Err fault ↦ Err fault
    ]
