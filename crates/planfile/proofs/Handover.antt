-- A draft that takes no further line reads on as its network does, with an empty table.
use Rattle.std.proofs.Common.{◌≡◌, ℕ, true, List, Some, None, Ok, Err, Option, Result, sym, ap, ◌∙◌, subst, subst₂}
use Rattle.figures.specs.declared.racks.Line.{Line}
use Rattle.figures.specs.declared.racks.Rack.{Rack}
use Rattle.admission.specs.declared.faults.TableFault.{TableFault}
use Rattle.listing.specs.declared.entries.Entry.{Entry}
use Rattle.records.specs.States.{State, unless, unlined, line_set, verdict}
use Rattle.wire.specs.declared.faults.FileFault.{FileFault}
use Rattle.wire.specs.declared.records.Record.{Record}
use Rattle.wire.specs.declared.records.Record.TheVariants as said
use Rattle.wire.specs.Faults.{with_place}
use Rattle.wire.specs.Walks.{Ended, Met, end, piece, step_of}
use Rattle.wire.proofs.Joins.{never, parts}
use Rattle.planfile.specs.declared.phases.Phase.TheVariants.{Drafting}
use Rattle.planfile.specs.Kinds.{PlanKind}
use Rattle.planfile.specs.Points.{Fitting, Leads, Took, onward, with_answer}
use Rattle.planfile.specs.Reading.{Read, cut_off, done, ended, refused, stopped}
use Rattle.planfile.specs.Stages.{Did, Stage, Taken, Valued, closed, is_call, lined, read_in}
use Rattle.planfile.proofs.Records.{closing, same_running}
use Rattle.planfile.proofs.Taking.{took}

did_alike : (room : ℕ) (rack : Rack) (what : Record PlanKind) (v : Result (Unit {0}) TableFault) (next : Stage)
    → Did room (Stage.networked (closed room rack)) what v next → Did room (Stage.drafted rack) what v next
did_alike room rack (said.Hub least most) v next did = absurd did.1
did_alike room rack (said.Line number line) v next did = absurd did.1
did_alike room rack (said.Stream stream) v next did = did
did_alike room rack (said.Withdrawal number) v next did = did
did_alike room rack (said.Places number places) v next did = did

module _ (room : ℕ) (rack : Rack) (at : ℕ) (bytes : List ℕ) where
  abbrev drafting : Stage
  drafting = Stage.drafted rack

  abbrev running : Stage
  running = Stage.networked (closed room rack)

  module _ (front : List ℕ) (what : Record PlanKind) (call : is_call what ≡ true) (reads : read_in Drafting at front ≡ Ok what) where
    -- a call is taken alike before and after the draft is closed
    taken_alike : (r : Result (Unit {0}) FileFault) (next : Stage) → Taken room running at front r next → Taken room drafting at front r next
    taken_alike r next taken =
        let t = subst (λ x. Valued room running at x r next) (same_running at front what call reads) taken in
        subst (λ x. Valued room drafting at x r next) (sym reads) (t.0, did_alike room rack what t.0 next t.1, t.2)

    module _ (left : List ℕ) (step : step_of at bytes ≡ piece at front left) where
      same_front : (f l : List ℕ) → step_of at bytes ≡ piece at f l → f ≡ front
      same_front f l e = let same : piece at f l ≡ piece at front left = sym e ∙ step in cc

      taken_there : (f l : List ℕ) → step_of at bytes ≡ piece at f l → (r : Result (Unit {0}) FileFault) (next : Stage)
          → Taken room running at f r next → Taken room drafting at f r next
      taken_there f l e r next taken =
          let same = same_front f l e in
          subst (λ x. Taken room drafting at x r next) (sym same)
          (taken_alike r next (subst (λ x. Taken room running at x r next) same taken))

      -- before a record that is a call
      pub over_call : (lines : List Entry) (last : Option (State PlanKind)) → Read room running at bytes lines last → Read room drafting at bytes lines last
      over_call _ _ (ended e is) = ended e is
      over_call _ _ (cut_off e is) = cut_off e is
      over_call _ _ (stopped f l fault next e taken input is) = stopped f l fault next e (taken_there f l e (Err fault) next taken) input is
      over_call _ _ (refused f l fault next e taken state more) = refused f l fault next e (taken_there f l e (Err fault) next taken) state more
      over_call _ _ (done f l next e taken more) = done f l next e (taken_there f l e (Ok tt) next taken) more

  no_piece : (f l : List ℕ) → step_of at bytes ≡ end → step_of at bytes ≡ piece at f l → ⊥
  no_piece f l step e = let same : end ≡ piece at f l = sym step ∙ e in never (cc)

  -- at the end of the file
  pub over_end : step_of at bytes ≡ end → (lines : List Entry) (last : Option (State PlanKind)) → Read room running at bytes lines last → Read room drafting at bytes lines last
  over_end step _ _ (ended e is) = ended e is
  over_end step _ _ (cut_off e is) = cut_off e is
  over_end step _ _ (stopped f l fault next e taken input is) = absurd (no_piece f l step e)
  over_end step _ _ (refused f l fault next e taken state more) = absurd (no_piece f l step e)
  over_end step _ _ (done f l next e taken more) = absurd (no_piece f l step e)

-- what a record of a draft says
said_line : (r : Result (Record PlanKind) FileFault) (number : ℕ) (line : Line) → Ok (Some (number, line)) ≡ lined r → r ≡ Ok (said.Line number line)
said_line (Ok (said.Hub least most)) number line e = never (cc)
said_line (Ok (said.Line n l)) number line e =
    let pair : ◌≡◌ {A = ℕ × Line} (number, line) (n, l) = cc in
    let first : number ≡ n = ap (λ x. x.0) pair in
    let second : line ≡ l = ap (λ x. x.1) pair in
    cc
said_line (Ok (said.Stream stream)) number line e = never (cc)
said_line (Ok (said.Withdrawal n)) number line e = never (cc)
said_line (Ok (said.Places n places)) number line e = never (cc)
said_line (Err fault) number line e = never (cc)

pub said_fault : (r : Result (Record PlanKind) FileFault) (fault : FileFault) → Err fault ≡ lined r → r ≡ Err fault
said_fault (Ok (said.Hub least most)) fault e = never (cc)
said_fault (Ok (said.Line n l)) fault e = never (cc)
said_fault (Ok (said.Stream stream)) fault e = never (cc)
said_fault (Ok (said.Withdrawal n)) fault e = never (cc)
said_fault (Ok (said.Places n places)) fault e = never (cc)
said_fault (Err f) fault e = cc

-- a line is taken by the draft, and noted
pub line_took : (rack rack' : Rack) (lines lines' : List Entry) (at : ℕ) (front : List ℕ) (number : ℕ) (line : Line)
    (v : Result (Unit {0}) TableFault) (r : Result (Unit {0}) FileFault) → Ok (Some (number, line)) ≡ lined (read_in Drafting at front)
    → v ≡ verdict (unlined rack number line) → rack' ≡ unless (unlined rack number line) (line_set rack number line) rack
    → r ≡ onward (with_place at v) → lines' ≡ with_answer lines at (with_place at v) → Took (Stage.drafted rack) lines at front r (Stage.drafted rack') lines'
line_took rack rack' lines lines' at front number line v r reads told left answered noted =
    took (Stage.drafted rack) at front (said.Line number line) v (Stage.drafted rack') lines lines' r
    (said_line (read_in Drafting at front) number line reads) (λ room. (told, ap Stage.drafted left)) answered noted

-- the draft is closed where it stands, and that is where the walker stands
module _ (lines₀ : List Entry) (stage₀ : Stage) (at₀ : ℕ) (left₀ : List ℕ) (lines : List Entry) (rack : Rack) (at : ℕ) (bytes : List ℕ)
    (lead : (room : ℕ) → Leads lines₀ stage₀ at₀ left₀ room lines (Stage.drafted rack) at bytes) (fitting : Fitting lines at bytes)
    (at₁ : ℕ) (bytes₁ : List ℕ) (same_at : at ≡ at₁) (same_bytes : bytes ≡ bytes₁) where
  abbrev Handed : ℕ → List ℕ → Type 0
  Handed a b = ((room : ℕ) → Leads lines₀ stage₀ at₀ left₀ room lines (Stage.networked (closed room rack)) a b) × Fitting lines a b

  pub handed_at_end : (next : ℕ) (left : List ℕ) → Ended at bytes next left → Handed at₁ bytes₁
  handed_at_end next left e =
      subst₂ Handed same_at same_bytes
      ((λ room file reached more last read. lead room file reached more last (over_end room rack at bytes e.step more last read)), fitting)

  pub handed_at_call : (p : ℕ) (front : List ℕ) (at' : ℕ) (left : List ℕ) → Met at bytes p front at' left
      → Ok None ≡ lined (read_in Drafting p front) → Handed at₁ bytes₁
  handed_at_call p front at' left met none =
      let here = (parts at p bytes front left met.step).here in
      let step : step_of at bytes ≡ piece at front left = met.step ∙ ap (λ q. piece q front left) here in
      let call = closing at front (ap (λ q. lined (read_in Drafting q front)) (sym here) ∙ sym none) in
      subst₂ Handed same_at same_bytes
      ((λ room file reached more last read. lead room file reached more last (over_call room rack at bytes front call.0 call.2 call.1 left step more last read)), fitting)
