-- A stream's figure by its priority: from the figures by places to the figures by streams.
use Rattle.std.proofs.Common.{◌≡◌, ℕ, zero, suc, ◌+◌, ◌<◌, true, cond, eqb, ltb, List, [], ◌∷◌, length, get_or, drop, replicate, Some, None, Ok, Err, Option, sym, refl, ap, ◌∙◌, subst, inl, inr, arith}
use Rattle.std.proofs.lemmas.List.{get_or-drop, get_or-replicate, get_or_past, length-replicate}
use Rattle.std.proofs.lemmas.Bool.{and_parts, cases_lt, cond-true, cond-false, eq-eqb, ne_eqb}
use Rattle.std.specs.List.{HoldsAt}
use Rattle.figures.specs.declared.delays.Delays.{Delays as Listing}
use Rattle.figures.specs.declared.faults.FigureFault.{FigureFault}
use Rattle.figures.specs.declared.faults.FigureFault.TheVariants.{NoDelay, NoNeed}
use Rattle.figures.specs.declared.hops.Hop.{Hop}
use Rattle.figures.specs.declared.hops.Hop.TheVariants.{Probe, Hub}
use Rattle.figures.specs.declared.racks.Rack.{Rack}
use Rattle.figures.specs.declared.streams.Stream.{Stream}
use Rattle.figures.specs.Racks.{spread}
use Rattle.figures.specs.Tables.{◌∈◌, falls_under}
use Rattle.figures.specs.Told.{Listed, Late, DelayAt, HopTold, HopToldFor, DelaysAre, DelaysTold}
use Rattle.figures.proofs.Items.{in_place, at_in}
use Rattle.figures.proofs.TableFacts.{all_under}

-- the figure at the place of the stream with z's priority
unfoldable pub figure_of : {K : Type 0} → List (Stream K) → List ℕ → Stream K → ℕ
figure_of [] qs z = 0
figure_of (s ∷ ss) qs z = cond (eqb s.priority z.priority) (get_or qs 0 0) (figure_of ss (drop 1 qs) z)

-- later streams have lower priority
later_lower : {K : Type 0} (high : ℕ) (ss : List (Stream K)) → falls_under high ss ≡ true → (j : ℕ) → j < length ss → HoldsAt (λ z. z.priority < high) ss j
later_lower high ss fall j h d = all_under high ss fall (get_or ss j d) (at_in ss j d h)

pub figure_listed : {K : Type 0} (high : ℕ) (ss : List (Stream K)) (qs : List ℕ) → falls_under high ss ≡ true → Listed (figure_of ss qs) ss qs
unfolding figure_of
figure_listed high [] qs fall i h d = absurd (omega arith)
figure_listed high (s ∷ ss) qs fall zero h d =
    sym (cond-true (eqb s.priority s.priority) _ _ (eq-eqb s.priority s.priority refl))
figure_listed high (s ∷ ss) qs fall (suc j) h d =
    let split = and_parts (ltb s.priority high) (falls_under s.priority ss) fall in
    let z = get_or ss j d in
    let lower = later_lower s.priority ss split.1 j (omega arith) d in
    let rest = figure_listed s.priority ss (drop 1 qs) split.1 j (omega arith) d in
    let other : figure_of (s ∷ ss) qs z ≡ figure_of ss (drop 1 qs) z = cond-false (eqb s.priority z.priority) _ _ (ne_eqb s.priority z.priority (λ e. omega arith)) in
    let shift : get_or (drop 1 qs) j 0 ≡ get_or qs (1 + j) 0 = get_or-drop 1 qs j 0 in
    let place : get_or qs (1 + j) 0 ≡ get_or qs (suc j) 0 = ap (λ n. get_or qs n 0) (omega arith) in
    sym (other ∙ sym rest ∙ shift ∙ place)

none_at : (n i : ℕ) → get_or (replicate {A = Option ℕ} n None) i None ≡ None
none_at n i = elim (cases_lt i n) [ inl lt ↦ get_or-replicate n i None None lt | inr ge ↦ get_or_past (replicate n None) i None (omega (arith, length-replicate {A = Option ℕ} n None)) ]

module _ {K : Type 0} (α : K → ℕ → ℕ) (rack : Rack) (table : List (Stream K)) (fall : falls_under 256 table ≡ true) where
  -- at the probe ports no stream is late
  pub probe_late : (q1 : Stream K → ℕ) → Late Probe rack q1 table (replicate 64 None)
  probe_late q1 i h d = none_at 64 i

  pub hub_late : (qs : List ℕ) (late : List (Option ℕ)) → ((i : ℕ) → i < length table → get_or late i None ≡ Some (get_or qs i 0 + spread rack)) → (q1 : Stream K → ℕ) → Listed q1 table qs → Late Hub rack q1 table late
  hub_late qs late is q1 listed i h d = is i h ∙ ap (λ n. Some (n + spread rack)) (listed i h d)

  -- the figures by places are those of the streams
  by_streams : (hop : Hop) (q1 : Stream K → ℕ) (qs : List ℕ) → HopTold α rack table hop q1 (Ok qs) → (s : Stream K) → s ∈ table → DelayAt α rack table hop q1 s (Some (figure_of table qs s))
  by_streams hop q1 qs told s m =
      let p = in_place table s m in
      let z = get_or table p.0 s in
      let d : DelayAt α rack table hop q1 z (Some (get_or qs p.0 0)) = told p.0 p.1 s in
      let e : DelayAt α rack table hop q1 z (Some (figure_of table qs z)) = subst (λ n. DelayAt α rack table hop q1 z (Some n)) (figure_listed 256 table qs fall p.0 p.1 s) d in
      subst (λ x. DelayAt α rack table hop q1 x (Some (figure_of table qs x))) (sym (p.2 s)) e

  -- all delays of the table, where both hops have theirs
  pub delays_are : (figures : Listing) (late : List (Option ℕ)) → ((i : ℕ) → i < length table → get_or late i None ≡ Some (get_or figures.q1 i 0 + spread rack)) → HopToldFor α rack table Probe (replicate 64 None) (Ok figures.q1) → HopToldFor α rack table Hub late (Ok figures.q2) → DelaysAre α rack table figures
  delays_are figures late is first second =
      let q1 = figure_of table figures.q1 in
      let listed = figure_listed 256 table figures.q1 fall in
      record {
        q1 = q1;
        q2 = figure_of table figures.q2;
        are = record {
          at_probe = by_streams Probe q1 figures.q1 (first q1 (probe_late q1));
          at_hub = by_streams Hub q1 figures.q2 (second q1 (hub_late figures.q1 late is q1 listed));
        };
        first_listed = listed;
        second_listed = figure_listed 256 table figures.q2 fall;
      }

  pub first_missing : (f : FigureFault) → HopToldFor α rack table Probe (replicate 64 None) (Err f) → DelaysTold α rack table (Err f)
  first_missing (NoDelay n) told = inl (told (λ _. 0) (probe_late (λ _. 0)))
  first_missing (NoNeed l) told = told (λ _. 0) (probe_late (λ _. 0))

  pub second_missing : (qs : List ℕ) (late : List (Option ℕ)) → ((i : ℕ) → i < length table → get_or late i None ≡ Some (get_or qs i 0 + spread rack)) → HopToldFor α rack table Probe (replicate 64 None) (Ok qs) → (f : FigureFault) → HopToldFor α rack table Hub late (Err f) → DelaysTold α rack table (Err f)
  second_missing qs late is first (NoDelay n) told =
      let q1 = figure_of table qs in
      inr (
      record {
        q1 = q1;
        firsts = by_streams Probe q1 qs (first q1 (probe_late q1));
        missing = told q1 (hub_late qs late is q1 (figure_listed 256 table qs fall));
      }
      )
  second_missing qs late is first (NoNeed l) told =
      told (figure_of table qs) (hub_late qs late is (figure_of table qs) (figure_listed 256 table qs fall))
