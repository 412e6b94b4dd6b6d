-- What is promised of a network whose figures are listed.
use Rattle.std.proofs.Common.{◌≡◌, ℕ, ◌+◌, ◌-◌, zero, suc, true, eqb, List, get_or, None, Ok, Option, sym, ap, ◌∙◌, subst, inl, inr, arith}
use Rattle.std.proofs.Math.Logic.{∥∥₁_elim}
use Rattle.std.proofs.lemmas.Bool.{cond-false, ne_eqb}
use Rattle.std.specs.Coded.{×_prop, le_prop}
use Rattle.figures.specs.declared.delays.StreamFigures.{StreamFigures}
use Rattle.figures.specs.declared.racks.Line.{Line}
use Rattle.figures.specs.declared.streams.Stream.{Stream}
use Rattle.figures.specs.Racks.{line_at}
use Rattle.figures.specs.Tables.{◌∈◌, Passing}
use Rattle.listing.specs.declared.entries.Entry.{Entry}
use Rattle.records.specs.declared.lines.LineFigures.{LineFigures}
use Rattle.records.specs.Sound.{Sound}
use Rattle.records.specs.States.{LineAnswer, State, StreamAnswer, is_there}
use Rattle.network.proofs.Covering.{covered}
use Rattle.network.specs.Promise.{Promised}
use Rattle.planfile.specs.Figures.{LinesListed, NetworkListed, StreamsListed, absent, no_line, no_stream, present, stream}
use Rattle.planfile.specs.Kinds.{PlanKind, plan_alpha}

module _ (st : State PlanKind) where
  stream_told : {xs : List (Stream PlanKind)} {ls : List Entry} → StreamsListed st xs ls → (s : Stream PlanKind) → s ∈ xs
      → (told : StreamFigures) × StreamAnswer plan_alpha st s.number (Ok told)
  stream_told no_stream s m = absurd m
  stream_told (stream x told answer rest) s (inl is) = (told, subst (λ (y : Stream PlanKind). StreamAnswer plan_alpha st y.number (Ok told)) (sym is) answer)
  stream_told (stream x told answer rest) s (inr m) = stream_told rest s m

  -- the line behind i slots
  line_told : {l : ℕ} {slots : List (Option Line)} {ls : List Entry} → LinesListed st l slots ls → (i : ℕ)
      → is_there (get_or slots i None) ≡ true → (told : LineFigures) × LineAnswer plan_alpha st (l + i) (Ok told)
  line_told no_line zero there = absurd (cc)
  line_told no_line (suc i) there = absurd (cc)
  line_told (absent rest) zero there = absurd (cc)
  line_told (absent {l = l} rest) (suc i) there =
      let more = line_told rest i there in
      let is : (l + 1) + i ≡ l + suc i = omega arith in
      (more.0, subst (λ n. LineAnswer plan_alpha st n (Ok more.0)) is more.1)
  line_told (present {l = l} line told answer rest) zero there =
      let is : l ≡ l + zero = omega arith in
      (told, subst (λ n. LineAnswer plan_alpha st n (Ok told)) is answer)
  line_told (present {l = l} line told answer rest) (suc i) there =
      let more = line_told rest i there in
      let is : (l + 1) + i ≡ l + suc i = omega arith in
      (more.0, subst (λ n. LineAnswer plan_alpha st n (Ok more.0)) is more.1)

  numbered : {ls : List Entry} → LinesListed st 1 st.rack.lines ls → (l : ℕ) → is_there (line_at st.rack l) ≡ true
      → (told : LineFigures) × LineAnswer plan_alpha st l (Ok told)
  numbered listed zero there = absurd (cc)
  numbered listed (suc l) there =
      let slot : line_at st.rack (suc l) ≡ get_or st.rack.lines l None =
      cond-false (eqb (suc l) 0) None (get_or st.rack.lines (suc l - 1) None) (ne_eqb (suc l) 0 (λ e. omega arith))
      ∙ ap (λ k. get_or st.rack.lines k None) (omega arith) in
      let one : 1 + l ≡ suc l = omega arith in
      subst (λ n. (told : LineFigures) × LineAnswer plan_alpha st n (Ok told)) one (line_told listed l (subst (λ o. is_there o ≡ true) slot there))

  -- that a table passes is known without its figures; these are listed
  pub promised_listed : {lines : List Entry} → Sound st → NetworkListed st lines → ∥ Passing plan_alpha st.rack st.streams ∥₁ → Promised plan_alpha st
  promised_listed S listed passes = record {
    streams_told = stream_told listed.streams_listed;
    lines_told = numbered listed.lines_listed;
    covered = λ r R.
        record {
          in_time = λ k less came told answer. ∥∥₁_elim passes (×_prop le_prop le_prop) (λ P. (covered plan_alpha st S P r R).in_time k less came told answer);
          probes = λ l t there before told answer. ∥∥₁_elim passes (×_prop le_prop le_prop) (λ P. (covered plan_alpha st S P r R).probes l t there before told answer);
          hubs = λ l t there before told answer. ∥∥₁_elim passes (×_prop le_prop le_prop) (λ P. (covered plan_alpha st S P r R).hubs l t there before told answer);
        };
  }
