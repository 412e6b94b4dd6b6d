-- A record that is taken at a stage has one answer and one stage after it, and the figure calls tell one thing.
use Rattle.std.proofs.Common.{◌≡◌, ℕ, ◌<◌, List, [], ◌∷◌, length, get_or, Some, None, Ok, Err, Option, Result, sym, ap, ◌∙◌, subst, arith}
use Rattle.figures.specs.declared.delays.StreamFigures.{StreamFigures}
use Rattle.figures.specs.Told.{NeedOf}
use Rattle.figures.proofs.Items.{at_in}
use Rattle.figures.proofs.Uniqueness.{tables_unique}
use Rattle.admission.specs.declared.faults.TableFault.{TableFault}
use Rattle.admission.proofs.Uniquely.{need_one, one_verdict}
use Rattle.records.specs.declared.lines.LineFigures.{LineFigures}
use Rattle.records.specs.Lists.{number_at}
use Rattle.records.specs.States.{LineAnswer, LineAsked, LineFigured, State, StreamAnswer, StreamAsked, StreamFigured, Tried, bare_rack, if_passed, unknown_line, unknown_stream}
use Rattle.wire.specs.declared.faults.FileFault.{FileFault}
use Rattle.wire.specs.declared.records.Record.{Record}
use Rattle.wire.specs.declared.records.Record.TheVariants as said
use Rattle.wire.specs.Faults.{with_place}
use Rattle.wire.proofs.Joins.{never}
use Rattle.planfile.specs.Kinds.{PlanKind, plan_alpha}
use Rattle.planfile.specs.Stages.{Called, Did, OnNetwork, Stage, Taken, Valued, closed, drafted, networked, opened, phase_of, read_in}

-- two that are given by the same pair are the same
pub given_same : {A B : Type 0} {a b c : A} {x y z : B} → (a ≡ c) × (x ≡ z) → (b ≡ c) × (y ≡ z) → (a ≡ b) × (x ≡ y)
given_same p q = (p.0 ∙ sym q.0, p.1 ∙ sym q.1)

-- what follows from an answer is one thing where the answer is
follows : {A B : Type 0} {r r' : A} {next next' : B} (f : A → B) → r ≡ r' → next ≡ f r → next' ≡ f r'
    → (r ≡ r') × (next ≡ next')
follows f e is is' = (e, is ∙ ap f e ∙ sym is')

-- a call that is tried has one answer and leaves one state
tried_one : {K : Type 0} (α : K → ℕ → ℕ) (st : State K) (o : Option TableFault) (new : State K)
    (r r' : Result (Unit {0}) TableFault) (after after' : State K) → Tried α st o new r after → Tried α st o new r' after'
    → (r ≡ r') × (after ≡ after')
tried_one {K} α st None new r r' after after' x y =
    follows (λ v. if_passed v new st) (one_verdict K α new.rack new.streams r r' x.0 y.0) x.1 y.1
tried_one α st (Some fault) new r r' after after' x y = given_same x y

-- the same for a record that is read, on a network and at each stage
module _ (r r' : Result (Unit {0}) TableFault) where
  called_one : (st : State PlanKind) (what : Record PlanKind) (after after' : State PlanKind)
      → Called st what r after → Called st what r' after' → (r ≡ r') × (after ≡ after')
  called_one st (said.Hub least most) after after' x y = absurd x
  called_one st (said.Line number line) after after' x y = absurd x
  called_one st (said.Stream stream) after after' x y = tried_one plan_alpha st _ _ r r' after after' x y
  called_one st (said.Withdrawal number) after after' x y = given_same x y
  called_one st (said.Places number places) after after' x y = tried_one plan_alpha st _ _ r r' after after' x y

  module _ (next next' : Stage) where
    on_network_one : (st : State PlanKind) (what : Record PlanKind) → OnNetwork st what r next → OnNetwork st what r' next'
        → (r ≡ r') × (next ≡ next')
    on_network_one st what x y =
        let one = called_one st what x.0 y.0 x.1 y.1 in
        (one.0, x.2 ∙ ap networked one.1 ∙ sym y.2)

    did_one : (room : ℕ) (stage : Stage) (what : Record PlanKind) → Did room stage what r next → Did room stage what r' next'
        → (r ≡ r') × (next ≡ next')
    did_one room opened (said.Hub least most) x y =
        follows (λ v. if_passed v (drafted (bare_rack least most)) opened) (x.0 ∙ sym y.0) x.1 y.1
    did_one room opened (said.Line number line) x y = absurd x
    did_one room opened (said.Stream stream) x y = absurd x
    did_one room opened (said.Withdrawal number) x y = absurd x
    did_one room opened (said.Places number places) x y = absurd x
    did_one room (drafted rack) (said.Hub least most) x y = absurd x
    did_one room (drafted rack) (said.Line number line) x y = given_same x y
    did_one room (drafted rack) (said.Stream stream) x y = on_network_one (closed room rack) (said.Stream stream) x y
    did_one room (drafted rack) (said.Withdrawal number) x y = on_network_one (closed room rack) (said.Withdrawal number) x y
    did_one room (drafted rack) (said.Places number places) x y = on_network_one (closed room rack) (said.Places number places) x y
    did_one room (networked st) what x y = on_network_one st what x y

module _ (room : ℕ) (stage : Stage) (at : ℕ) (r r' : Result (Unit {0}) FileFault) (next next' : Stage) where
  valued_one : (read : Result (Record PlanKind) FileFault) → Valued room stage at read r next → Valued room stage at read r' next'
      → (r ≡ r') × (next ≡ next')
  valued_one (Ok what) x y =
      let one = did_one x.0 y.0 next next' room stage what x.1 y.1 in
      (x.2 ∙ ap (with_place at) one.0 ∙ sym y.2, one.1)
  valued_one (Err fault) x y = given_same x y

  pub taken_one : (bytes : List ℕ) → Taken room stage at bytes r next → Taken room stage at bytes r' next'
      → (r ≡ r') × (next ≡ next')
  taken_one bytes = valued_one (read_in (phase_of stage) at bytes)

ok_err : {X : Type 0} {x : X} {fault : TableFault} → Ok x ≡ Err fault → ⊥
ok_err e = never (cc)

-- a call that is refused tells no figures, and one that is not tells one thing
asked_one : {F : Type 0} (Asked : Option TableFault → F → Type 0) → ((fault : TableFault) (a : F) → Asked (Some fault) a → ⊥)
    → ((a b : F) → Asked None a → Asked None b → a ≡ b)
    → (o : Option TableFault) (a b : F) → Asked o a → Asked o b → a ≡ b
asked_one Asked never one (Some fault) a b x y = absurd (never fault a x)
asked_one Asked never one None a b x y = one a b x y

some_item : {X : Type 0} (xs : List X) (i : ℕ) → i < length xs → X
some_item [] i h = absurd (omega arith)
some_item (x ∷ xs) i h = x

module _ {K : Type 0} (α : K → ℕ → ℕ) (st : State K) where
  stream_one : (i : ℕ) (a b : StreamFigures) → StreamFigured α st i (Ok a) → StreamFigured α st i (Ok b) → a ≡ b
  stream_one i a b x y =
      let there = x.2.there in
      let d = some_item st.streams i there in
      let same =
      (tables_unique K).same_delays α st.rack st.streams x.1.q1 x.1.q2 y.1.q1 y.1.q2 x.1.are y.1.are
      (get_or st.streams i d) (at_in st.streams i d there) in
      let first : a.q1 ≡ b.q1 =
      cc (x.2.q1_is, x.1.first_listed i there d, same.0, y.1.first_listed i there d, y.2.q1_is) in
      let second : a.q2 ≡ b.q2 =
      cc (x.2.q2_is, x.1.second_listed i there d, same.1, y.1.second_listed i there d, y.2.q2_is) in
      let whole : a.total ≡ b.total = cc (first, second, x.2.total_is d, y.2.total_is d) in
      λ j. record { q1 = first j; q2 = second j; total = whole j }

  pub stream_told_one : (n : ℕ) (a b : StreamFigures) → StreamAnswer α st n (Ok a) → StreamAnswer α st n (Ok b) → a ≡ b
  stream_told_one n =
      asked_one (λ o a. StreamAsked α st o n (Ok a)) (λ fault a. ok_err) (stream_one (number_at n st.streams))
      (unknown_stream st n)

  line_one : (l : ℕ) (a b : LineFigures) → LineFigured α st l a → LineFigured α st l b → a ≡ b
  line_one l a b x y =
      let there : Some x.line ≡ Some y.line = sym x.there ∙ y.there in
      let here : y.line ≡ x.line = cc in
      let same = (tables_unique K).same_delays α st.rack st.streams x.q1 x.q2 y.q1 y.q2 x.delays y.delays in
      let needs : Some a.need ≡ Some b.need =
      need_one α st.rack st.streams x.q1 y.q1 (λ s m. (same s m).0) l (Some x.line) (Some a.need) (Some b.need) x.need_is
      (subst (λ z. NeedOf α st.rack st.streams y.q1 l (Some z) (Some b.need)) here y.need_is) in
      let need : a.need ≡ b.need = cc in
      let places : a.places ≡ b.places = x.places_are ∙ ap (λ z. z.places) (sym here) ∙ sym y.places_are in
      λ j. record { need = need j; places = places j }

  pub line_told_one : (l : ℕ) (a b : LineFigures) → LineAnswer α st l (Ok a) → LineAnswer α st l (Ok b) → a ≡ b
  line_told_one l = asked_one (λ o a. LineAsked α st o l (Ok a)) (λ fault a. ok_err) (line_one l) (unknown_line st l)
