-- The parts of the check together.
use Rattle.std.proofs.Common.{◌≡◌, ℕ, ◌-◌, ◌≤◌, true, false, eqb, List, length, Some, None, Ok, Err, Option, Result, sym, refl, ◌∙◌, subst, inl, inr, arith}
use Rattle.std.proofs.lemmas.List.{get_or_past}
use Rattle.std.proofs.lemmas.Bool.{cases_lt, cond-true, cond-false, eq-eqb, ne_eqb}
use Rattle.figures.specs.declared.delays.Delays.{Delays as Listing}
use Rattle.figures.specs.declared.faults.FigureFault.TheVariants.{NoDelay, NoNeed}
use Rattle.figures.specs.declared.racks.Line.{Line}
use Rattle.figures.specs.declared.racks.Rack.{Rack}
use Rattle.figures.specs.declared.racks.Side.{Side}
use Rattle.figures.specs.declared.racks.Side.TheVariants.{Inbound, Outbound}
use Rattle.figures.specs.declared.streams.Stream.{Stream}
use Rattle.figures.specs.Racks.{line_at, is_inbound, is_outbound}
use Rattle.figures.specs.Tables.{◌∈◌, Distinct, table_kept, ProbeNeed, HubNeed}
use Rattle.figures.specs.Told.{DelaysAre, NeedOn}
use Rattle.admission.specs.declared.faults.TableFault.{TableFault}
use Rattle.admission.specs.declared.faults.TableFault.TheVariants.{OutsideLimits, Overfull, LineTaken, NoLine, StreamTaken, PriorityTaken, TableFull, NoStream, Figure, Late, Cramped}
use Rattle.admission.specs.Checks.{InTime, Fits, Fails, LinesTold, CheckTold}

false_true : {X : Type 0} → false ≡ true → X
false_true e = let z : ◌≡◌ {A = ℕ} 0 1 = cc in absurd (omega arith)

some_none : {X Y : Type 0} {x : X} → Some x ≡ None → Y
some_none e = let z : ◌≡◌ {A = ℕ} 0 1 = cc in absurd (omega arith)

module _ {K : Type 0} (α : K → ℕ → ℕ) (rack : Rack) (table : List (Stream K)) (q1 : Stream K → ℕ) where
  -- n is the need of the line l, by its side, and at most its places
  pub record Served (l n : ℕ) : Type 0 where
    pub probe : is_inbound (line_at rack l) ≡ true → ProbeNeed α rack table l (Some n)
    pub hub : is_outbound (line_at rack l) ≡ true → HubNeed α rack table q1 l (Some n)
    pub room : (line : Line) → line_at rack l ≡ Some line → n ≤ line.places

  -- a line that is not there asks nothing
  absent : (l : ℕ) → line_at rack l ≡ None → Served l 0
  absent l none = record {
    probe = λ e. false_true (subst (λ o. is_inbound o ≡ true) none e);
    hub = λ e. false_true (subst (λ o. is_outbound o ≡ true) none e);
    room = λ line e. some_none (sym e ∙ none);
  }

  on_probe : (l : ℕ) (r : Option ℕ) (side : Side) → elim side [ Inbound ↦ true | Outbound ↦ false ] ≡ true → NeedOn α rack table q1 l side r → ProbeNeed α rack table l r
  on_probe l r Inbound e need = need
  on_probe l r Outbound e need = false_true e

  on_hub : (l : ℕ) (r : Option ℕ) (side : Side) → elim side [ Inbound ↦ false | Outbound ↦ true ] ≡ true → NeedOn α rack table q1 l side r → HubNeed α rack table q1 l r
  on_hub l r Inbound e need = false_true e
  on_hub l r Outbound e need = need

  served : (l : ℕ) (o : Option Line) → line_at rack l ≡ o → Fits α rack table q1 l o → (n : ℕ) × Served l n
  served l None at fits = (0, absent l at)
  served l (Some line) at fits = (
    fits.0,
    record {
      probe = λ e. on_probe l (Some fits.0) line.side (subst (λ o. is_inbound o ≡ true) at e) fits.1;
      hub = λ e. on_hub l (Some fits.0) line.side (subst (λ o. is_outbound o ≡ true) at e) fits.1;
      room = λ other e. same_places other (sym e ∙ at);
    },
  )
    where
      same_places : (other : Line) → Some other ≡ Some line → fits.0 ≤ other.places
      same_places other e = let same : other ≡ line = cc in subst (λ x. fits.0 ≤ x.places) (sym same) fits.2

  pub each_served : length rack.lines ≡ 16 → ((l : ℕ) → 1 ≤ l → l ≤ 16 → Fits α rack table q1 l (line_at rack l)) → (l : ℕ) → (n : ℕ) × Served l n
  each_served sixteen fits l =
      elim (cases_lt l 1) [
        | inl less ↦ (0, absent l (cond-true (eqb l 0) _ _ (eq-eqb l 0 (omega arith))))
        | inr low ↦
            elim (cases_lt 16 l) [
              | inl more ↦ (0, absent l (cond-false (eqb l 0) _ _ (ne_eqb l 0 (λ e. omega arith)) ∙ get_or_past rack.lines (l - 1) None (omega arith)))
              | inr high ↦ served l (line_at rack l) refl (fits l low high)
            ]
      ]

  -- only two faults are those of a line
  no_line_fault : (l : ℕ) (f : TableFault) → ((line : Line) → Fails α rack table q1 l (Some line) f → ⊥) → (o : Option Line) → Fails α rack table q1 l o f → ⊥
  no_line_fault l f never None fails = fails
  no_line_fault l f never (Some line) fails = never line fails

module _ {K : Type 0} (α : K → ℕ → ℕ) (rack : Rack) (table : List (Stream K)) (kept : table_kept rack table ≡ true) (distinct : Distinct table) (sixteen : length rack.lines ≡ 16) where
  pub verdict : (figures : Listing) (are : DelaysAre α rack table figures) → ((s : Stream K) → s ∈ table → InTime rack are.q1 are.q2 s) → (r : Result (Unit {0}) TableFault) → LinesTold α rack table figures r → CheckTold α rack table r
  verdict figures are in_time (Ok x) lines =
      let each = each_served α rack table are.q1 sixteen (lines are.q1 are.first_listed) in
      record {
        kept = kept;
        distinct = distinct;
        q1 = are.q1;
        q2 = are.q2;
        need = λ l. (each l).0;
        delays = are.are;
        needs = record { of_probes = λ l. (each l).1.probe; of_hubs = λ l. (each l).1.hub };
        in_time = in_time;
        room = λ l. (each l).1.room;
      }
  verdict figures are in_time (Err (Figure (NoNeed l))) lines =
      record { q1 = are.q1; q2 = are.q2; delays = are.are; in_time = in_time; first = lines are.q1 are.first_listed }
  verdict figures are in_time (Err (Cramped l)) lines =
      record { q1 = are.q1; q2 = are.q2; delays = are.are; in_time = in_time; first = lines are.q1 are.first_listed }
  verdict figures are in_time (Err (Figure (NoDelay s))) lines = let first = lines are.q1 are.first_listed in absurd (no_line_fault α rack table are.q1 first.line (Figure (NoDelay s)) (λ line x. x) _ first.fails)
  verdict figures are in_time (Err (Late s)) lines = let first = lines are.q1 are.first_listed in absurd (no_line_fault α rack table are.q1 first.line (Late s) (λ line x. x) _ first.fails)
  verdict figures are in_time (Err OutsideLimits) lines = let first = lines are.q1 are.first_listed in no_line_fault α rack table are.q1 first.line OutsideLimits (λ line x. x) _ first.fails
  verdict figures are in_time (Err Overfull) lines = let first = lines are.q1 are.first_listed in no_line_fault α rack table are.q1 first.line Overfull (λ line x. x) _ first.fails
  verdict figures are in_time (Err (LineTaken m)) lines = let first = lines are.q1 are.first_listed in no_line_fault α rack table are.q1 first.line (LineTaken m) (λ line x. x) _ first.fails
  verdict figures are in_time (Err (NoLine m)) lines = let first = lines are.q1 are.first_listed in no_line_fault α rack table are.q1 first.line (NoLine m) (λ line x. x) _ first.fails
  verdict figures are in_time (Err (StreamTaken s)) lines = let first = lines are.q1 are.first_listed in no_line_fault α rack table are.q1 first.line (StreamTaken s) (λ line x. x) _ first.fails
  verdict figures are in_time (Err (PriorityTaken s)) lines = let first = lines are.q1 are.first_listed in no_line_fault α rack table are.q1 first.line (PriorityTaken s) (λ line x. x) _ first.fails
  verdict figures are in_time (Err (TableFull s)) lines = let first = lines are.q1 are.first_listed in no_line_fault α rack table are.q1 first.line (TableFull s) (λ line x. x) _ first.fails
  verdict figures are in_time (Err (NoStream s)) lines = let first = lines are.q1 are.first_listed in no_line_fault α rack table are.q1 first.line (NoStream s) (λ line x. x) _ first.fails
