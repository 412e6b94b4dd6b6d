-- What a record that is read says at each phase, and where its fault stands.
use Rattle.std.proofs.Common.{◌≡◌, ℕ, ◌≤◌, Bool, true, false, cond, eqb, leb, List, [], ◌∷◌, length, drop, Some, None, Ok, Err, Option, Result, sym, refl, ◌∙◌, subst, arith, lit≤}
use Rattle.std.proofs.lemmas.Bool.{both_ways, eqb-true}
use Rattle.arrivals.specs.declared.choices.Choice.TheVariants.{First, Second}
use Rattle.arrivals.specs.declared.faults.KindFault.{KindFault}
use Rattle.arrivals.specs.declared.faults.KindFault.TheVariants as kind
use Rattle.figures.specs.declared.racks.Line.{Line}
use Rattle.figures.specs.declared.streams.Stream.{Stream}
use Rattle.admission.specs.declared.faults.TableFault.{TableFault}
use Rattle.admission.specs.declared.faults.TableFault.TheVariants.{OutsideLimits}
use Rattle.admission.specs.Faults as table
use Rattle.admission.specs.Fields.{fields_within}
use Rattle.wire.specs.declared.faults.FileFault.{FileFault}
use Rattle.wire.specs.declared.faults.FileFault.TheVariants.{Malformed, Misplaced}
use Rattle.wire.specs.declared.records.Record.{Record}
use Rattle.wire.specs.declared.records.Record.TheVariants as said
use Rattle.wire.specs.declared.records.Shape.{Shape}
use Rattle.wire.specs.declared.records.Shape.TheVariants as shapes
use Rattle.wire.specs.Bytes.{number_at}
use Rattle.wire.specs.Faults.{place, with_place}
use Rattle.wire.specs.Kinds.{message_of, bucket_of}
use Rattle.wire.specs.Records.{coded, fields_of, filing, long_of, shape_of, side_of, stream_of, values_of, with_kind}
use Rattle.wire.proofs.Joins.{never}
use Rattle.planfile.specs.declared.phases.Phase.{Phase}
use Rattle.planfile.specs.declared.phases.Phase.TheVariants.{Drafting, Running}
use Rattle.planfile.specs.Kinds.{PlanKind}
use Rattle.planfile.specs.Lines.{of_input}
use Rattle.planfile.specs.Stages.{admits, is_call, lined, read_in}

-- a fault, if there is one, of the input
abbrev Early : {X : Type 0} → Result X TableFault → Type 0
Early (Ok x) = Unit {0}
Early (Err fault) = leb (table.refusal fault) 7 ≡ true

early_cond : {X : Type 0} (b : Bool) (x y : Result X TableFault) → Early x → Early y → Early (cond b x y)
early_cond true x y a b = a
early_cond false x y a b = b

early_option : {A X : Type 0} (F : A → X) (o : Option A)
    → Early (elim o as (λ _. Result X TableFault) [ Some a ↦ Ok (F a) | None ↦ Err OutsideLimits ])
early_option F (Some a) = tt
early_option F None = refl

early_kind : {A X : Type 0} (F : A → X) (r : Result A KindFault)
    → Early (elim r as (λ _. Result X TableFault) [ Ok a ↦ Ok (F a) | Err fault ↦ Err (table.of_kind fault) ])
early_kind F (Ok a) = tt
early_kind F (Err kind.OutsideLimits) = refl
early_kind F (Err kind.Overfull) = refl

early_filing : {A K : Type 0} (f : A → K) (r : Result (Stream A) TableFault) → Early r → Early (filing f r)
early_filing f (Ok s) h = tt
early_filing f (Err fault) h = h

early_stream : {A : Type 0} (filed : List ℕ → Result A KindFault) (rest : List ℕ) → Early (stream_of filed rest)
early_stream filed rest =
    early_cond (fields_within (fields_of rest)) _ _ (early_kind (λ kind. with_kind (λ _. kind) (fields_of rest)) (filed (drop 9 rest))) refl

early_values : (shape : Shape) (rest : List ℕ) → Early (values_of shape rest)
early_values shapes.Hub rest = tt
early_values shapes.Line rest =
    early_option
    (λ side. said.Line (number_at rest 0 1) (record { side = side; cell_time = number_at rest 2 2; propagation = number_at rest 4 2; places = number_at rest 6 2 }))
    (side_of (number_at rest 1 1))
early_values shapes.Message rest = early_filing First (stream_of message_of rest) (early_stream message_of rest)
early_values shapes.Bucket rest = early_filing Second (stream_of bucket_of rest) (early_stream bucket_of rest)
early_values shapes.Withdrawal rest = tt
early_values shapes.Places rest = tt

-- a fault, if there is one, of the input, with the place of its record
abbrev Misread : {X : Type 0} → ℕ → Result X FileFault → Type 0
Misread at (Ok x) = Unit {0}
Misread at (Err fault) = (of_input fault ≡ true) × (place fault ≡ at)

misread_placed : {X : Type 0} (at : ℕ) (r : Result X TableFault) → Early r → Misread at (with_place at r)
misread_placed at (Ok x) h = tt
misread_placed at (Err fault) h = (h, refl)

misread_cond : {X : Type 0} (at : ℕ) (b : Bool) (x y : Result X FileFault) → Misread at x → Misread at y → Misread at (cond b x y)
misread_cond at true x y a b = a
misread_cond at false x y a b = b

misread_coded : (at : ℕ) (rest : List ℕ) (o : Option Shape)
    → Misread at (elim o as (λ _. Result Shape FileFault) [ Some shape ↦ cond (eqb (length rest) (long_of shape)) (Ok shape) (Err (Malformed at)) | None ↦ Err (Malformed at) ])
misread_coded at rest (Some shape) = misread_cond at (eqb (length rest) (long_of shape)) (Ok shape) (Err (Malformed at)) tt (refl, refl)
misread_coded at rest None = (refl, refl)

misread_shape : (at : ℕ) (bytes : List ℕ) → Misread at (shape_of at bytes)
misread_shape at [] = (refl, refl)
misread_shape at (code ∷ rest) = misread_coded at rest (coded code)

-- what a record says, by what its shape is found to be
abbrev reads : Phase → ℕ → List ℕ → Result Shape FileFault → Result (Record PlanKind) FileFault
reads phase at bytes (Ok shape) = cond (admits phase shape) (with_place at (values_of shape (drop 1 bytes))) (Err (Misplaced at))
reads phase at bytes (Err fault) = Err fault

reads_in : (phase : Phase) (at : ℕ) (bytes : List ℕ) → read_in phase at bytes ≡ reads phase at bytes (shape_of at bytes)
reads_in phase at bytes = go (shape_of at bytes)
  where
    go : (d : Result Shape FileFault)
        → elim d as (λ _. Result (Record PlanKind) FileFault) [ Ok shape ↦ cond (admits phase shape) (elim d as (λ _. Result (Record PlanKind) FileFault) [ Ok s ↦ with_place at (values_of s (drop 1 bytes)) | Err fault ↦ Err fault ]) (Err (Misplaced at)) | Err fault ↦ Err fault ] ≡ reads phase at bytes d
    go (Ok shape) = refl
    go (Err fault) = refl

misread_reads : (phase : Phase) (at : ℕ) (bytes : List ℕ) (d : Result Shape FileFault) → Misread at d → Misread at (reads phase at bytes d)
misread_reads phase at bytes (Ok shape) h =
    misread_cond at (admits phase shape) _ _ (misread_placed at (values_of shape (drop 1 bytes)) (early_values shape (drop 1 bytes))) (refl, refl)
misread_reads phase at bytes (Err fault) h = h

-- a record that cannot be read has a fault of the input, at its own place
pub misread : (phase : Phase) (at : ℕ) (bytes : List ℕ) (fault : FileFault)
    → read_in phase at bytes ≡ Err fault → (of_input fault ≡ true) × (place fault ≡ at)
misread phase at bytes fault e =
    subst (Misread at) (sym (reads_in phase at bytes) ∙ e) (misread_reads phase at bytes (shape_of at bytes) (misread_shape at bytes))

-- a shape that stands where this record does
abbrev like : Record PlanKind → Shape
like (said.Hub least most) = shapes.Hub
like (said.Line number line) = shapes.Line
like (said.Stream stream) = shapes.Message
like (said.Withdrawal number) = shapes.Withdrawal
like (said.Places number places) = shapes.Places

abbrev Like : {E : Type 0} → Shape → Result (Record PlanKind) E → Type 0
Like shape (Ok what) = (phase : Phase) → admits phase (like what) ≡ admits phase shape
Like shape (Err fault) = Unit {0}

like_filing : {A : Type 0} (shape : Shape) (same : (phase : Phase) → admits phase shapes.Message ≡ admits phase shape) (f : A → PlanKind)
    (r : Result (Stream A) TableFault) → Like shape (filing f r)
like_filing shape same f (Ok s) = same
like_filing shape same f (Err fault) = tt

like_option : {A : Type 0} (F : A → Line) (number : ℕ) (o : Option A)
    → Like shapes.Line (elim o as (λ _. Result (Record PlanKind) TableFault) [ Some a ↦ Ok (said.Line number (F a)) | None ↦ Err OutsideLimits ])
like_option F number (Some a) = λ phase. refl
like_option F number None = tt

like_values : (shape : Shape) (rest : List ℕ) → Like shape (values_of shape rest)
like_values shapes.Hub rest = λ phase. refl
like_values shapes.Line rest =
    like_option
    (λ side. record { side = side; cell_time = number_at rest 2 2; propagation = number_at rest 4 2; places = number_at rest 6 2 })
    (number_at rest 0 1) (side_of (number_at rest 1 1))
like_values shapes.Message rest = like_filing shapes.Message (λ phase. refl) First (stream_of message_of rest)
like_values shapes.Bucket rest = like_filing shapes.Bucket (λ phase. refl) Second (stream_of bucket_of rest)
like_values shapes.Withdrawal rest = λ phase. refl
like_values shapes.Places rest = λ phase. refl

like_placed : (shape : Shape) (at : ℕ) (r : Result (Record PlanKind) TableFault) → Like shape r → Like shape (with_place at r)
like_placed shape at (Ok what) h = h
like_placed shape at (Err fault) h = tt

abbrev Fit : Phase → Result (Record PlanKind) FileFault → Type 0
Fit phase (Ok what) = admits phase (like what) ≡ true
Fit phase (Err fault) = Unit {0}

fit_cond : (phase : Phase) (shape : Shape) (at : ℕ) (b : Bool) → admits phase shape ≡ b → (r : Result (Record PlanKind) FileFault) → Like shape r
    → Fit phase (cond b r (Err (Misplaced at)))
fit_cond phase shape at true e (Ok what) h = h phase ∙ e
fit_cond phase shape at true e (Err fault) h = tt
fit_cond phase shape at false e r h = tt

fit_reads : (phase : Phase) (at : ℕ) (bytes : List ℕ) (d : Result Shape FileFault) → Fit phase (reads phase at bytes d)
fit_reads phase at bytes (Ok shape) =
    fit_cond phase shape at (admits phase shape) refl (with_place at (values_of shape (drop 1 bytes)))
    (like_placed shape at (values_of shape (drop 1 bytes)) (like_values shape (drop 1 bytes)))
fit_reads phase at bytes (Err fault) = tt

-- a record that is read may stand where it is
pub admitted : (phase : Phase) (at : ℕ) (bytes : List ℕ) (what : Record PlanKind) → read_in phase at bytes ≡ Ok what → admits phase (like what) ≡ true
admitted phase at bytes what e = subst (Fit phase) (sym (reads_in phase at bytes) ∙ e) (fit_reads phase at bytes (shape_of at bytes))

running_call : (what : Record PlanKind) → admits Running (like what) ≡ true → is_call what ≡ true
running_call (said.Hub least most) h = h
running_call (said.Line number line) h = h
running_call (said.Stream stream) h = refl
running_call (said.Withdrawal number) h = refl
running_call (said.Places number places) h = refl

call_running : (what : Record PlanKind) → is_call what ≡ true → admits Running (like what) ≡ true
call_running (said.Hub least most) h = h
call_running (said.Line number line) h = h
call_running (said.Stream stream) h = refl
call_running (said.Withdrawal number) h = refl
call_running (said.Places number places) h = refl

-- once the draft is closed, a record that is read is a call
pub is_a_call : (at : ℕ) (bytes : List ℕ) (what : Record PlanKind) → read_in Running at bytes ≡ Ok what → is_call what ≡ true
is_a_call at bytes what e = running_call what (admitted Running at bytes what e)

-- a call is read alike before and after the draft is closed
same_reads : (at : ℕ) (bytes : List ℕ) (what : Record PlanKind) (d : Result Shape FileFault) → is_call what ≡ true
    → reads Drafting at bytes d ≡ Ok what → reads Running at bytes d ≡ Ok what
same_reads at bytes what (Ok shapes.Hub) h e = e
same_reads at bytes what (Ok shapes.Line) h e =
    absurd
    (both_ways (admits Running (like what))
    (subst (Like shapes.Line) e (like_placed shapes.Line at (values_of shapes.Line (drop 1 bytes)) (like_values shapes.Line (drop 1 bytes))) Running)
    (call_running what h))
same_reads at bytes what (Ok shapes.Message) h e = e
same_reads at bytes what (Ok shapes.Bucket) h e = e
same_reads at bytes what (Ok shapes.Withdrawal) h e = e
same_reads at bytes what (Ok shapes.Places) h e = e
same_reads at bytes what (Err fault) h e = e

pub same_running : (at : ℕ) (bytes : List ℕ) (what : Record PlanKind) → is_call what ≡ true
    → read_in Drafting at bytes ≡ Ok what → read_in Running at bytes ≡ Ok what
same_running at bytes what h e =
    reads_in Running at bytes ∙ same_reads at bytes what (shape_of at bytes) h (sym (reads_in Drafting at bytes) ∙ e)

-- where a record of a draft says no line, it is a call
pub closing : (at : ℕ) (bytes : List ℕ) → lined (read_in Drafting at bytes) ≡ Ok None
    → (what : Record PlanKind) × (read_in Drafting at bytes ≡ Ok what) × (is_call what ≡ true)
closing at bytes h = go (read_in Drafting at bytes) refl h
  where
    go : (r : Result (Record PlanKind) FileFault) → read_in Drafting at bytes ≡ r → lined r ≡ Ok None
        → (what : Record PlanKind) × (read_in Drafting at bytes ≡ Ok what) × (is_call what ≡ true)
    go (Ok (said.Hub least most)) e n = absurd (both_ways (admits Drafting shapes.Hub) refl (admitted Drafting at bytes (said.Hub least most) e))
    go (Ok (said.Line number line)) e n = never (cc)
    go (Ok (said.Stream stream)) e n = (said.Stream stream, e, refl)
    go (Ok (said.Withdrawal number)) e n = (said.Withdrawal number, e, refl)
    go (Ok (said.Places number places)) e n = (said.Places number places, e, refl)
    go (Err fault) e n = never (cc)

-- how long a record is that can be read
abbrev Long : List ℕ → Result Shape FileFault → Type 0
Long bytes (Ok shape) = 3 ≤ length bytes
Long bytes (Err fault) = Unit {0}

long_shape : (shape : Shape) → 2 ≤ long_of shape
long_shape shapes.Hub = lit≤ tt
long_shape shapes.Line = lit≤ tt
long_shape shapes.Message = lit≤ tt
long_shape shapes.Bucket = lit≤ tt
long_shape shapes.Withdrawal = lit≤ tt
long_shape shapes.Places = lit≤ tt

long_coded : (at code : ℕ) (rest : List ℕ) (o : Option Shape)
    → Long (code ∷ rest) (elim o as (λ _. Result Shape FileFault) [ Some shape ↦ cond (eqb (length rest) (long_of shape)) (Ok shape) (Err (Malformed at)) | None ↦ Err (Malformed at) ])
long_coded at code rest (Some shape) = go (eqb (length rest) (long_of shape)) refl
  where
    go : (b : Bool) → eqb (length rest) (long_of shape) ≡ b → Long (code ∷ rest) (cond b (Ok shape) (Err (Malformed at)))
    go true e = omega (arith, eqb-true (length rest) (long_of shape) e, long_shape shape)
    go false e = tt
long_coded at code rest None = tt

shape_long : (at : ℕ) (bytes : List ℕ) → Long bytes (shape_of at bytes)
shape_long at [] = tt
shape_long at (code ∷ rest) = long_coded at code rest (coded code)

pub read_long : (phase : Phase) (at : ℕ) (bytes : List ℕ) (what : Record PlanKind) → read_in phase at bytes ≡ Ok what → 3 ≤ length bytes
read_long phase at bytes what e = go (shape_of at bytes) (shape_long at bytes) (sym (reads_in phase at bytes) ∙ e)
  where
    go : (d : Result Shape FileFault) → Long bytes d → reads phase at bytes d ≡ Ok what → 3 ≤ length bytes
    go (Ok shape) h r = h
    go (Err fault) h r = never (cc)
