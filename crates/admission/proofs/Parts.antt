-- The parts of the check, as the loops find them.
use Rattle.std.proofs.Common.{◌≡◌, ℕ, ◌+◌, ◌<◌, ◌≤◌, List, ◌++◌, length, get_or, take, drop, sym, refl, ap, ◌∙◌, subst, inl, inr, arith}
use Rattle.std.proofs.lemmas.List.{take-append-drop, get_or_default}
use Rattle.std.proofs.lemmas.Bool.{cases_lt}
use Rattle.std.specs.List.{HoldsAt}
use Rattle.figures.specs.declared.delays.Delays.{Delays as Listing}
use Rattle.figures.specs.declared.delays.StreamFigures.{StreamFigures}
use Rattle.figures.specs.declared.racks.Rack.{Rack}
use Rattle.figures.specs.declared.streams.Stream.{Stream}
use Rattle.figures.specs.Tables.{◌∈◌, total}
use Rattle.figures.specs.Told.{Listed, StreamTold}
use Rattle.figures.proofs.Items.{drop_item, in_front, in_place}
use Rattle.admission.specs.Checks.{FirstOf, InTime, TooLate}

module _ {K : Type 0} (rack : Rack) (table : List (Stream K)) (figures : Listing) where
  -- the streams below the place i are in time
  abbrev pub InTimeBelow : ℕ → Type 0
  InTimeBelow i =
      (q1 q2 : Stream K → ℕ) → Listed q1 table figures.q1 → Listed q2 table figures.q2 → (j : ℕ) → j < i → HoldsAt (InTime rack q1 q2) table j

  -- the total that is told of a stream is its total
  pub told_total : (q1 q2 : Stream K → ℕ) → Listed q1 table figures.q1 → Listed q2 table figures.q2 → (i : ℕ) (f : StreamFigures) → StreamTold rack table figures i f → (s : Stream K) → s ≡ get_or table i s → f.total ≡ total rack (q1 s) (q2 s) s
  told_total q1 q2 first second i f told s read =
      let a : f.q1 ≡ q1 (get_or table i s) = told.q1_is ∙ first i told.there s in
      let b : f.q2 ≡ q2 (get_or table i s) = told.q2_is ∙ second i told.there s in
      let c : f.total ≡ total rack f.q1 f.q2 s = subst (λ z. f.total ≡ total rack f.q1 f.q2 z) (sym read) (told.total_is s) in
      let d : f.q1 ≡ q1 s = a ∙ ap q1 (sym read) in
      let e : f.q2 ≡ q2 s = b ∙ ap q2 (sym read) in
      c ∙ ap (λ n. total rack n f.q2 s) d ∙ ap (λ n. total rack (q1 s) n s) e

  pub in_time_more : (i : ℕ) (f : StreamFigures) (s : Stream K) → StreamTold rack table figures i f → s ≡ get_or table i s → f.total ≤ s.deadline → InTimeBelow i → InTimeBelow (i + 1)
  in_time_more i f s told read le before q1 q2 first second j less =
      elim (cases_lt j i) [
        | inl earlier ↦ before q1 q2 first second j earlier
        | inr here ↦
            let same : i ≡ j = omega arith in
            let good : InTime rack q1 q2 s = subst (λ n. n ≤ s.deadline) (told_total q1 q2 first second i f told s read) le in
            subst (λ k. HoldsAt (InTime rack q1 q2) table k) same
            (λ d. subst (InTime rack q1 q2) (read ∙ get_or_default table i s d told.there) good)
      ]

  pub first_late : (i : ℕ) (f : StreamFigures) (s : Stream K) → StreamTold rack table figures i f → s ≡ get_or table i s → s.deadline < f.total → InTimeBelow i → (q1 q2 : Stream K → ℕ) → Listed q1 table figures.q1 → Listed q2 table figures.q2 → FirstOf (InTime rack q1 q2) (TooLate rack q1 q2) table s.number
  first_late i f s told read late before q1 q2 first second = record {
    before = take i table;
    stream = s;
    after = drop (i + 1) table;
    split = sym (take-append-drop i table) ∙ ap (λ rest. take i table ++ rest) (drop_item table i s told.there read);
    earlier = λ z m.
        let p = in_front table i z m in
        subst (InTime rack q1 q2) (sym (p.3 z)) (before q1 q2 first second p.0 p.1 z);
    fails = subst (λ n. s.deadline < n) (told_total q1 q2 first second i f told s read) late;
    named = refl;
  }

  pub all_in_time : InTimeBelow (length table) → (q1 q2 : Stream K → ℕ) → Listed q1 table figures.q1 → Listed q2 table figures.q2 → (s : Stream K) → s ∈ table → InTime rack q1 q2 s
  all_in_time below q1 q2 first second s m =
      let p = in_place table s m in
      subst (InTime rack q1 q2) (sym (p.2 s)) (below q1 q2 first second p.0 p.1 s)
