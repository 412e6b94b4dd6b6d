-- From one point of a file to the next: a record that is taken, a fault, the end.
use Rattle.std.proofs.Common.{◌≡◌, ℕ, ◌+◌, ◌-◌, ◌≤◌, Bool, true, false, cond, List, [], ◌∷◌, ◌++◌, length, None, Ok, Err, Option, Result, sym, refl, ap, ◌∙◌, subst, subst₂, append_assoc, arith, length-drop, length-take}
use Rattle.std.proofs.lemmas.List.{append-nil, length_push}
use Rattle.std.proofs.lemmas.Bool.{cond-false, cond-true}
use Rattle.listing.specs.declared.entries.Entry.{Entry}
use Rattle.listing.specs.declared.entries.Entry.TheVariants.{Done}
use Rattle.records.specs.States.{State}
use Rattle.wire.specs.declared.faults.FileFault.{FileFault}
use Rattle.wire.specs.declared.faults.FileFault.TheVariants.{CutShort}
use Rattle.wire.specs.declared.records.Record.{Record}
use Rattle.wire.specs.Bytes.{be}
use Rattle.wire.specs.Walks.{CutOff, Ended, Met, end, piece, step_of}
use Rattle.wire.proofs.Joins.{never, parts}
use Rattle.planfile.specs.Kinds.{PlanKind}
use Rattle.planfile.specs.Lines.{of_input, refused_line, stop_line}
use Rattle.planfile.specs.Points.{Ends, Fitting, Leads, Reaches, Stops, Took, onward, with_answer}
use Rattle.planfile.specs.Reading.{Read, ended, cut_off, stopped, refused, done}
use Rattle.planfile.specs.Stages.{Stage, Taken, Valued, finished, phase_of, read_in}
use Rattle.planfile.proofs.Records.{misread, read_long}

module _ (room : ℕ) (file : List ℕ) (lines : List Entry) (stage : Stage) (at : ℕ) (bytes : List ℕ) (reached : Reaches room file lines stage at bytes) where
  -- what the lines noted by then and one more are read with
  onto : (line : Entry) (more : List Entry) (last : Option (State PlanKind)) → Read room stage at bytes (line ∷ more) last
      → Read room Stage.opened 1 file ((lines ++ line ∷ []) ++ more) last
  onto line more last read =
      subst (λ ls. Read room Stage.opened 1 file ls last) (sym (append_assoc lines (line ∷ []) more)) (reached (line ∷ more) last read)

  -- the end of the file
  pub at_end : step_of at bytes ≡ end → Read room Stage.opened 1 file lines (finished room stage)
  at_end e = subst (λ ls. Read room Stage.opened 1 file ls (finished room stage)) (append-nil lines) (reached [] (finished room stage) (ended e refl))

  -- a record that is cut short
  pub at_cut : (fault : FileFault) (next : ℕ) (left : List ℕ) → CutOff at bytes fault next left
      → Read room Stage.opened 1 file (lines ++ stop_line fault ∷ []) None
  at_cut fault next left c =
      subst (λ f. Read room Stage.opened 1 file (lines ++ stop_line f ∷ []) None) (sym c.told) (reached (stop_line (CutShort at) ∷ []) None (cut_off c.step refl))

  module _ (front left : List ℕ) (step : step_of at bytes ≡ piece at front left) where
    -- a record with a fault of the input
    pub at_fault : (fault : FileFault) (next : Stage) → Taken room stage at front (Err fault) next → of_input fault ≡ true
        → Read room Stage.opened 1 file (lines ++ stop_line fault ∷ []) None
    at_fault fault next taken input = reached (stop_line fault ∷ []) None (stopped front left fault next step taken input refl)

    -- a record that is answered, and noted
    pub past : (answer : Result (Unit {0}) FileFault) (next : Stage) → Taken room stage at front answer next → onward answer ≡ Ok tt
        → Reaches room file (with_answer lines at answer) next (at + 2 + length front) left
    past (Ok x) next taken on = λ more last read. onto (Done at) more last (done front left next step taken read)
    past (Err fault) next taken on = go (of_input fault) refl
      where
        go : (b : Bool) → of_input fault ≡ b → Reaches room file (with_answer lines at (Err fault)) next (at + 2 + length front) left
        go true input =
            let same : Err fault ≡ Ok tt = sym (cond-true (of_input fault) (Err fault) (Ok tt) input) ∙ on in
            never (cc)
        go false state =
            subst (λ ls. Reaches room file ls next (at + 2 + length front) left) (sym (cond-false (of_input fault) lines (lines ++ refused_line fault ∷ []) state))
            (λ more last read. onto (refused_line fault) more last (refused front left fault next step taken state read))

  module _ (p : ℕ) (front : List ℕ) (at' : ℕ) (left : List ℕ) (met : Met at bytes p front at' left) where
    here : p ≡ at
    here = (parts at p bytes front left met.step).here

    step_here : step_of at bytes ≡ piece at front left
    step_here = met.step ∙ ap (λ q. piece q front left) here

    -- the next record is taken
    pub taken_on : (next : Stage) (lines' : List Entry) → Took stage lines p front (Ok tt) next lines' → Reaches room file lines' next at' left
    taken_on next lines' took =
        let t = subst (λ q. Took stage lines q front (Ok tt) next lines') here took room in
        subst₂ (λ ls n. Reaches room file ls next n left) (sym t.3) (sym (met.goes ∙ ap (λ q. q + 2 + length front) here))
        (past front left step_here t.0 next t.1 t.2)

    -- the next record has a fault of the input
    pub stopped_by : (fault : FileFault) (next : Stage) (lines' : List Entry) → Took stage lines p front (Err fault) next lines'
        → Read room Stage.opened 1 file (lines' ++ stop_line fault ∷ []) None
    stopped_by fault next lines' took =
        let t = subst (λ q. Took stage lines q front (Err fault) next lines') here took in
        let x = t.0 room in
        subst (λ ls. Read room Stage.opened 1 file (ls ++ stop_line fault ∷ []) None) (sym t.3)
        (at_fault front left step_here fault x.0 x.1 t.1)

-- how long things are
module _ (stage : Stage) (at : ℕ) (front : List ℕ) where
  answered_long : (answer : Result (Unit {0}) FileFault) (next : Stage) → Taken 0 stage at front answer next → onward answer ≡ Ok tt → 3 ≤ length front
  answered_long answer next taken on = go (read_in (phase_of stage) at front) refl taken
    where
      go : (r : Result (Record PlanKind) FileFault) → read_in (phase_of stage) at front ≡ r → Valued 0 stage at r answer next → 3 ≤ length front
      go (Ok what) e v = read_long (phase_of stage) at front what e
      go (Err fault) e v =
          let early = (misread (phase_of stage) at front fault e).0 in
          let same : Err fault ≡ Ok tt = sym (cond-true (of_input fault) (Err fault) (Ok tt) early) ∙ (sym (ap onward v.0) ∙ on) in
          never (cc)

  -- a record that is taken has at least three bytes
  pub took_long : (lines lines' : List Entry) (next : Stage) → Took stage lines at front (Ok tt) next lines' → 3 ≤ length front
  took_long lines lines' next took = let t = took 0 in answered_long t.0 next t.1 t.2

with_answer_length : (lines : List Entry) (at : ℕ) (answer : Result (Unit {0}) FileFault) → length (with_answer lines at answer) ≤ length lines + 1
with_answer_length lines at (Ok x) = omega (arith, length_push lines (Done at))
with_answer_length lines at (Err fault) = go (of_input fault)
  where
    go : (b : Bool) → length (cond b lines (lines ++ refused_line fault ∷ [])) ≤ length lines + 1
    go true = omega arith
    go false = omega (arith, length_push lines (refused_line fault))

pub met_length : (at p : ℕ) (bytes front : List ℕ) (at' : ℕ) (left : List ℕ) → Met at bytes p front at' left
    → (length bytes ≡ 2 + length front + length left) × (at' ≡ at + 2 + length front) × (p ≡ at)
met_length at p bytes front at' left met =
    let q = parts at p bytes front left met.step in
    let n = be (q.high ∷ q.low ∷ []) in
    let f : length front ≡ n = omega (arith, ap length q.fore ∙ length-take n q.rest, q.fits) in
    let l : length left ≡ length q.rest - n = ap length q.aft ∙ length-drop n q.rest in
    let b : length bytes ≡ length q.rest + 2 = omega (arith, ap length q.is) in
    (omega (arith, q.fits), omega (arith, met.goes, q.here), q.here)

pub fitting_on : (stage : Stage) (lines : List Entry) (at p : ℕ) (bytes front : List ℕ) (at' : ℕ) (left : List ℕ) → Fitting lines at bytes
    → Met at bytes p front at' left → (next : Stage) (lines' : List Entry) → Took stage lines p front (Ok tt) next lines' → Fitting lines' at' left
fitting_on stage lines at p bytes front at' left fitting met next lines' took =
    let l = met_length at p bytes front at' left met in
    let long = took_long stage p front lines lines' next took in
    let t = took 0 in
    let more = with_answer_length lines p t.0 in
    let is = ap length t.3 in
    record { few = omega (arith, l.1, fitting.few); short = omega (arith, l.0, l.1, fitting.short) }

-- behind a point that the first one leads to
module _ (lines₀ : List Entry) (stage₀ : Stage) (at₀ : ℕ) (left₀ : List ℕ) (lines : List Entry) (stage : Stage) (at : ℕ) (bytes : List ℕ)
    (lead : (room : ℕ) → Leads lines₀ stage₀ at₀ left₀ room lines stage at bytes) (fitting : Fitting lines at bytes) where
  pub cut_stops : (fault : FileFault) (next : ℕ) (left : List ℕ) → CutOff at bytes fault next left
      → (room : ℕ) → Stops lines₀ stage₀ at₀ left₀ room lines fault
  cut_stops fault next left c room =
      record {
        reads = λ file reached. at_cut room file lines stage at bytes (lead room file reached) fault next left c;
        few = omega (arith, fitting.few, fitting.short);
      }

  pub end_ends : (next : ℕ) (left : List ℕ) → Ended at bytes next left → (room : ℕ) → Ends lines₀ stage₀ at₀ left₀ room lines stage
  end_ends next left e room =
      record {
        reads = λ file reached. at_end room file lines stage at bytes (lead room file reached) e.step;
        few = omega (arith, fitting.few, fitting.short);
      }

  module _ (p : ℕ) (front : List ℕ) (at' : ℕ) (left : List ℕ) (met : Met at bytes p front at' left) where
    pub leads_on : (next : Stage) (lines' : List Entry) → Took stage lines p front (Ok tt) next lines'
        → (room : ℕ) → Leads lines₀ stage₀ at₀ left₀ room lines' next at' left
    leads_on next lines' took room file reached =
        taken_on room file lines stage at bytes (lead room file reached) p front at' left met next lines' took

    pub took_stops : (fault : FileFault) (next : Stage) (lines' : List Entry) → Took stage lines p front (Err fault) next lines'
        → (room : ℕ) → Stops lines₀ stage₀ at₀ left₀ room lines' fault
    took_stops fault next lines' took room =
        let l = met_length at p bytes front at' left met in
        record {
          reads = λ file reached. stopped_by room file lines stage at bytes (lead room file reached) p front at' left met fault next lines' took;
          few = omega (arith, ap length took.3, fitting.few, fitting.short);
        }
