-- A whole file: its opening, its first record, and what follows.
use Rattle.std.proofs.Common.{◌≡◌, ℕ, ◌+◌, ◌≤◌, Bool, true, false, cond, eqb, leb, List, [], ◌∷◌, ◌++◌, length, Some, None, Ok, Err, Result, sym, refl, ap, ◌∙◌, subst, subst₂, arith, MatchResult}
use Rattle.std.proofs.lemmas.List.{append-nil}
use Rattle.std.proofs.lemmas.Bool.{leb-true}
use Rattle.figures.specs.declared.racks.Rack.{Rack}
use Rattle.figures.specs.Tables.{Passing}
use Rattle.listing.specs.declared.entries.Entry.{Entry}
use Rattle.listing.specs.declared.entries.Entry.TheVariants.{Done}
use Rattle.listing.specs.Text.{listing_text}
use Rattle.records.specs.Sound.{Sound}
use Rattle.records.specs.States.{State}
use Rattle.planfile.proofs.Promising.{promised_listed}
use Rattle.wire.specs.declared.faults.FileFault.{FileFault}
use Rattle.wire.specs.declared.faults.FileFault.TheVariants.{TooLong, Version}
use Rattle.wire.specs.Limits.{longest_file}
use Rattle.wire.specs.Opening.{opening, versioned}
use Rattle.wire.specs.Walks.{CutOff, Ended, Met}
use Rattle.wire.proofs.Joins.{never}
use Rattle.planfile.specs.Figures.{NetworkListed}
use Rattle.planfile.specs.Kinds.{PlanKind, plan_alpha}
use Rattle.planfile.specs.Lines.{stop_line}
use Rattle.planfile.specs.Plans.{PlanTold, Printed}
use Rattle.planfile.specs.Points.{Added, Ends, Entered, Finishes, Fitting, Leads, Opens, PlanRead, Reaches, Stops, Took}
use Rattle.planfile.specs.Reading.{Read, ReadFrom}
use Rattle.planfile.specs.Stages.{Stage}
use Rattle.planfile.proofs.Reached.{at_end, cut_stops, fitting_on, taken_on, took_stops}

-- the calls are carried out to the end of the file, and the figures follow
pub finishes : (lines : List Entry) (stage stage' : Stage) (at : ℕ) (left : List ℕ) (room : ℕ) (answers lines' : List Entry) (st : State PlanKind)
    → stage ≡ stage' → Ends lines stage at left room answers (Stage.networked st) → Sound st → ∥ Passing plan_alpha st.rack st.streams ∥₁
    → Added (NetworkListed st) answers lines' → Finishes lines stage' at left room lines'
finishes lines stage stage' at left room answers lines' st same ends sound passes figures =
    record {
      answers = answers;
      figures = figures.0;
      st = st;
      reads = λ file reached. ends.reads file (subst (λ s. Reaches room file lines s at left) (sym same) reached);
      listed = figures.1;
      promised = promised_listed st sound figures.1 passes;
      whole = figures.2;
    }

-- what follows the version byte is shorter than the longest file
opened_length : (bytes rest : List ℕ) → opening bytes ≡ Ok rest → length rest + 1 ≤ longest_file
opened_length bytes rest e = go (leb (length bytes) longest_file) refl e
  where
    after : (bs : List ℕ) → versioned bs ≡ Ok rest → length rest + 1 ≤ length bs
    after [] v = never (cc)
    after (version ∷ bs) v = known (eqb version 1) v
      where
        known : (b : Bool) → cond b (Ok bs) (Err Version) ≡ Ok rest → length rest + 1 ≤ length (version ∷ bs)
        known true k = let is : bs ≡ rest = cc in omega (arith, ap length is)
        known false k = never (cc)

    go : (b : Bool) → leb (length bytes) longest_file ≡ b → cond b (versioned bytes) (Err TooLong) ≡ Ok rest → length rest + 1 ≤ longest_file
    go true short v = omega (arith, leb-true (length bytes) longest_file short, after bytes v)
    go false long v = never (cc)

module _ (room : ℕ) (bytes rest : List ℕ) (opens : opening bytes ≡ Ok rest) where
  from_rest : (lines : List Entry) (last : _) → Read room Stage.opened 1 rest lines last → ReadFrom room (opening bytes) lines last
  from_rest lines last read = subst (λ x. ReadFrom room x lines last) (sym opens) read

  -- from a point that the file reaches
  module _ (lines : List Entry) (stage : Stage) (at : ℕ) (left : List ℕ) (reached : Reaches room rest lines stage at left) where
    pub stops_plan : (lines' : List Entry) (fault : FileFault) → Stops lines stage at left room lines' fault → PlanRead room bytes (Err fault) lines'
    stops_plan lines' fault stops = (from_rest (lines' ++ stop_line fault ∷ []) None (stops.reads rest reached), stops.few)

    finishes_plan : (lines' : List Entry) → Finishes lines stage at left room lines' → PlanRead room bytes (Ok tt) lines'
    finishes_plan lines' f = (
      record { answers = f.answers; figures = f.figures; last = Some f.st; read = from_rest f.answers (Some f.st) (f.reads rest reached); told = f.listed; whole = f.whole },
      f.promised,
    )

    pub finish_plan : (lines' : List Entry) (r : Result (Unit {0}) FileFault)
        → MatchResult r (λ _. Finishes lines stage at left room lines') (λ fault. Stops lines stage at left room lines' fault) → PlanRead room bytes r lines'
    finish_plan lines' (Ok x) f = finishes_plan lines' f
    finish_plan lines' (Err fault) stops = stops_plan lines' fault stops

  -- at the first record, with nothing noted yet
  module _ (at : ℕ) (first : at ≡ 1) (left : List ℕ) (same : left ≡ rest) (lines : List Entry) (none : lines ≡ []) where
    begun : Reaches room rest lines Stage.opened at left
    begun more last read =
        subst (λ ls. Read room Stage.opened 1 rest (ls ++ more) last) (sym none) (subst₂ (λ a l. Read room Stage.opened a l more last) first same read)

    begun_fits : Fitting lines at left
    begun_fits = record { few = omega (arith, ap length none); short = omega (arith, ap length same, opened_length bytes rest opens) }

    abbrev Lead : Type 0
    Lead = (n : ℕ) → Leads lines Stage.opened at left n lines Stage.opened at left

    stay : Lead
    stay n file reached = reached

    pub cut_first : (fault : FileFault) (next : ℕ) (after : List ℕ) → CutOff at left fault next after → PlanRead room bytes (Err fault) lines
    cut_first fault next after c =
        stops_plan lines Stage.opened at left begun lines fault (cut_stops lines Stage.opened at left lines Stage.opened at left stay begun_fits fault next after c room)

    pub no_records : (next : ℕ) (after : List ℕ) → Ended at left next after → PlanRead room bytes (Ok tt) lines
    no_records next after e = (
      record { answers = lines; figures = []; last = None; read = from_rest lines None (at_end room rest lines Stage.opened at left begun e.step); told = refl; whole = sym (append-nil lines) },
      tt,
    )

    module _ (p : ℕ) (front : List ℕ) (at' : ℕ) (left' : List ℕ) (met : Met at left p front at' left') where
      pub bad_hub : (fault : FileFault) → Opens p front (Err fault) → PlanRead room bytes (Err fault) lines
      bad_hub fault o =
          stops_plan lines Stage.opened at left begun lines fault
          (took_stops lines Stage.opened at left lines Stage.opened at left stay begun_fits p front at' left' met fault Stage.opened lines (o.0, o.1, o.2, refl) room)

      module _ (rack : Rack) (o : Opens p front (Ok rack)) (lines' : List Entry) (noted : lines' ≡ lines ++ Done p ∷ []) where
        took : Took Stage.opened lines p front (Ok tt) (Stage.drafted rack) lines'
        took n = (Ok tt, o n, refl, noted)

        pub hub_fits : Fitting lines' at' left'
        hub_fits = fitting_on Stage.opened lines at p left front at' left' begun_fits met (Stage.drafted rack) lines' took

        pub hub_reaches : Reaches room rest lines' (Stage.drafted rack) at' left'
        hub_reaches = taken_on room rest lines Stage.opened at left begun p front at' left' met (Stage.drafted rack) lines' took

-- the fault at which reading stops is the last line
pub stopped_entered : (room : ℕ) (bytes : List ℕ) (fault : FileFault) (lines lines' : List Entry) → PlanRead room bytes (Err fault) lines
    → lines' ≡ lines ++ stop_line fault ∷ [] → Entered room bytes lines'
stopped_entered room bytes fault lines lines' stops is = (
  record {
    answers = lines ++ stop_line fault ∷ [];
    figures = [];
    last = None;
    read = stops.0;
    told = refl;
    whole = is ∙ sym (append-nil (lines ++ stop_line fault ∷ []));
  },
  tt,
)

-- what is entered is told, once it is printed
pub plan_told : (room : ℕ) (bytes before : List ℕ) (r : Result ℕ FileFault) (after : List ℕ) (lines entries : List Entry) → Entered room bytes lines
    → entries ≡ lines → Printed before (listing_text entries) r after → PlanTold room bytes before r after
plan_told room bytes before r after lines entries entered is printed =
    record { entries = lines; listed = entered.0; promised = entered.1; printed = subst (λ es. Printed before (listing_text es) r after) is printed }
