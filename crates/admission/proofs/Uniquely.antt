-- The check of a table has one answer.
use Rattle.std.proofs.Common.{◌≡◌, ℕ, ◌<◌, true, false, ◌⊎◌, List, [], ◌∷◌, ◌++◌, Some, None, Ok, Err, Option, Result, sym, refl, ap, ◌∙◌, subst, inl, inr, arith}
use Rattle.std.proofs.lemmas.Bool.{cases_lt}
use Rattle.figures.specs.declared.faults.FigureFault.TheVariants.{NoDelay, NoNeed}
use Rattle.figures.specs.declared.racks.Line.{Line}
use Rattle.figures.specs.declared.racks.Rack.{Rack}
use Rattle.figures.specs.declared.racks.Side.{Side}
use Rattle.figures.specs.declared.racks.Side.TheVariants.{Inbound, Outbound}
use Rattle.figures.specs.declared.streams.Stream.{Stream}
use Rattle.figures.specs.Racks.{line_at, cell_time, is_inbound, is_outbound, places_of}
use Rattle.figures.specs.Tables.{◌∈◌, total, probe_bound, probe_higher, hub_bound, hub_higher, probe_load, hub_load, FirstDelay, SecondDelay, Delays, Passing}
use Rattle.figures.specs.Told.{DelaysTold, NeedOn, NeedOf}
use Rattle.figures.proofs.Transport.{delay_same, need_same}
use Rattle.figures.proofs.Uniqueness.{port_delay_same, port_need_same, hub_bound_same, hub_higher_same, hub_load_same, tables_unique}
use Rattle.admission.specs.declared.faults.TableFault.{TableFault}
use Rattle.admission.specs.declared.faults.TableFault.TheVariants.{OutsideLimits, Overfull, LineTaken, NoLine, StreamTaken, PriorityTaken, TableFull, NoStream, Figure, Late, Cramped}
use Rattle.admission.specs.Checks.{InTime, FirstLate, Fits, Fails, FirstUnfit, CheckTold}
use Rattle.admission.specs.Unique.{OneVerdict}

some_none : {X Y : Type 0} {x : X} → Some x ≡ None → Y
some_none e = let z : ◌≡◌ {A = ℕ} 0 1 = cc in absurd (omega arith)

-- what stands between two parts of a list stands in it
in_middle : {X : Type 0} (b a : List X) (s : X) → s ∈ (b ++ s ∷ a)
in_middle [] a s = inl refl
in_middle (x ∷ b) a s = inr (in_middle b a s)

-- the first element without P is one
first_same : {X : Type 0} (P : X → Type 0) (b b' a a' : List X) (s s' : X) → b ++ s ∷ a ≡ b' ++ s' ∷ a' → ((z : X) → z ∈ b → P z) → ((z : X) → z ∈ b' → P z) → (P s → ⊥) → (P s' → ⊥) → s ≡ s'
first_same P [] [] a a' s s' e before before' fails fails' = cc
first_same P [] (y ∷ ys) a a' s s' e before before' fails fails' =
    let same : y ≡ s = cc in absurd (fails (subst P same (before' y (inl refl))))
first_same P (x ∷ xs) [] a a' s s' e before before' fails fails' =
    let same : x ≡ s' = cc in absurd (fails' (subst P same (before x (inl refl))))
first_same P (x ∷ xs) (y ∷ ys) a a' s s' e before before' fails fails' =
    let rest : xs ++ s ∷ a ≡ ys ++ s' ∷ a' = cc in
    first_same P xs ys a a' s s' rest (λ z m. before z (inr m)) (λ z m. before' z (inr m)) fails fails'

module _ {K : Type 0} (α : K → ℕ → ℕ) (rack : Rack) (table : List (Stream K)) where
  first_one : (s : Stream K) (r r' : Option ℕ) → FirstDelay α rack table s r → FirstDelay α rack table s r' → r ≡ r'
  first_one s = port_delay_same (cell_time rack s.inbound) (probe_bound α s) (probe_higher α rack table s)

  -- two q1 that agree on the table
  module _ (q1 q1' : Stream K → ℕ) (same : (s : Stream K) → s ∈ table → q1 s ≡ q1' s) where
    second_one : (s : Stream K) → s ∈ table → (r r' : Option ℕ) → SecondDelay α rack table q1 s r → SecondDelay α rack table q1' s r' → r ≡ r'
    second_one s m r r' d d' =
        port_delay_same (cell_time rack s.outbound) (hub_bound α rack q1' s) (hub_higher α rack table q1' s) r r'
        (delay_same (cell_time rack s.outbound) r (hub_bound_same α rack table q1 q1' same s m) (hub_higher_same α rack table q1 q1' same s) d) d'

    pub need_one : (l : ℕ) (o : Option Line) (r r' : Option ℕ) → NeedOf α rack table q1 l o r → NeedOf α rack table q1' l o r' → r ≡ r'
    need_one l None r r' n n' = absurd n
    need_one l (Some line) r r' n n' = by_side line.side n n'
      where
        by_side : (side : Side) → NeedOn α rack table q1 l side r → NeedOn α rack table q1' l side r' → r ≡ r'
        by_side Inbound n n' = port_need_same (cell_time rack l) (probe_load α rack table l) r r' n n'
        by_side Outbound n n' =
            port_need_same (cell_time rack l) (hub_load α rack table q1' l) r r' (need_same (cell_time rack l) r (hub_load_same α rack table q1 q1' same l) n) n'

  firsts_same : (q1 q1' : Stream K → ℕ) → ((s : Stream K) → s ∈ table → FirstDelay α rack table s (Some (q1 s))) → ((s : Stream K) → s ∈ table → FirstDelay α rack table s (Some (q1' s))) → (s : Stream K) → s ∈ table → q1 s ≡ q1' s
  firsts_same q1 q1' d d' s m = let e : Some (q1 s) ≡ Some (q1' s) = first_one s (Some (q1 s)) (Some (q1' s)) (d s m) (d' s m) in cc

  at_split : (b a : List (Stream K)) (s : Stream K) → table ≡ b ++ s ∷ a → s ∈ table
  at_split b a s split = subst (λ t. s ∈ t) (sym split) (in_middle b a s)

  in_left : {X : Type 0} (b a : List X) (s z : X) → z ∈ b → z ∈ (b ++ s ∷ a)
  in_left [] a s z m = absurd m
  in_left (x ∷ b) a s z (inl e) = inl e
  in_left (x ∷ b) a s z (inr m) = inr (in_left b a s z m)

  at_before : (b a : List (Stream K)) (s z : Stream K) → table ≡ b ++ s ∷ a → z ∈ b → z ∈ table
  at_before b a s z split m = subst (λ t. z ∈ t) (sym split) (in_left b a s z m)

  -- a delay at the hub port by one q1 is one by another that agrees
  second_moves : (q1 q1' : Stream K → ℕ) → ((s : Stream K) → s ∈ table → q1 s ≡ q1' s) → (s : Stream K) → s ∈ table → (r : Option ℕ) → SecondDelay α rack table q1 s r → SecondDelay α rack table q1' s r
  second_moves q1 q1' same s m r d =
      delay_same (cell_time rack s.outbound) r (hub_bound_same α rack table q1 q1' same s m) (hub_higher_same α rack table q1 q1' same s) d

  -- no delay for a stream, and delays for all
  not_delayed : (n : ℕ) → DelaysTold α rack table (Err (NoDelay n)) → (q1 q2 : Stream K → ℕ) → Delays α rack table q1 q2 → ⊥
  not_delayed n (inl w) q1 q2 d =
      let m = at_split w.before w.after w.stream w.split in
      some_none (first_one w.stream (Some (q1 w.stream)) None (d.at_probe w.stream m) w.none)
  not_delayed n (inr w) q1 q2 d =
      let x = w.missing in
      let m = at_split x.before x.after x.stream x.split in
      some_none (second_one q1 w.q1 (firsts_same q1 w.q1 d.at_probe w.firsts) x.stream m (Some (q2 x.stream)) None (d.at_hub x.stream m) x.none)

  first_fails : (s : Stream K) → FirstDelay α rack table s None → (q : ℕ) × FirstDelay α rack table s (Some q) → ⊥
  first_fails s none has = some_none (first_one s (Some has.0) None has.1 none)

  one_undelayed : (n n' : ℕ) → DelaysTold α rack table (Err (NoDelay n)) → DelaysTold α rack table (Err (NoDelay n')) → n ≡ n'
  one_undelayed n n' (inl w) (inl v) =
      let same : w.stream ≡ v.stream = first_same (λ z. (q : ℕ) × FirstDelay α rack table z (Some q)) w.before v.before w.after v.after w.stream v.stream (sym w.split ∙ v.split) w.earlier v.earlier (first_fails w.stream w.none) (first_fails v.stream v.none) in
      sym w.named ∙ ap (λ s. s.number) same ∙ v.named
  one_undelayed n n' (inl w) (inr v) =
      let m = at_split w.before w.after w.stream w.split in
      absurd (first_fails w.stream w.none (v.q1 w.stream, v.firsts w.stream m))
  one_undelayed n n' (inr w) (inl v) =
      let m = at_split v.before v.after v.stream v.split in
      absurd (first_fails v.stream v.none (w.q1 v.stream, w.firsts v.stream m))
  one_undelayed n n' (inr w) (inr v) =
      let agree = firsts_same w.q1 v.q1 w.firsts v.firsts in
      let back = firsts_same v.q1 w.q1 v.firsts w.firsts in
      let x = w.missing in
      let y = v.missing in
      let mx = at_split x.before x.after x.stream x.split in
      let my = at_split y.before y.after y.stream y.split in
      let same : x.stream ≡ y.stream =
      first_same (λ z. (q : ℕ) × SecondDelay α rack table w.q1 z (Some q)) x.before y.before x.after y.after x.stream y.stream (sym x.split ∙ y.split) x.earlier
      (λ z m. let e = y.earlier z m in (e.0, second_moves v.q1 w.q1 back z (at_before y.before y.after y.stream z y.split m) (Some e.0) e.1))
      (λ has. some_none (second_one w.q1 w.q1 (λ s _. refl) x.stream mx (Some has.0) None has.1 x.none))
      (λ has. some_none (second_one w.q1 v.q1 agree y.stream my (Some has.0) None has.1 y.none)) in
      sym x.named ∙ ap (λ s. s.number) same ∙ y.named

  -- the totals by two pairs of delays are the same
  total_same : (q1 q2 q1' q2' : Stream K → ℕ) → Delays α rack table q1 q2 → Delays α rack table q1' q2' → (s : Stream K) → s ∈ table → total rack (q1 s) (q2 s) s ≡ total rack (q1' s) (q2' s) s
  total_same q1 q2 q1' q2' d d' s m =
      let e = (tables_unique K).same_delays α rack table q1 q2 q1' q2' d d' s m in
      ap (λ n. total rack n (q2 s) s) e.0 ∙ ap (λ n. total rack (q1' s) n s) e.1

  not_late : (n : ℕ) → FirstLate α rack table n → (q1 q2 : Stream K → ℕ) → Delays α rack table q1 q2 → ((s : Stream K) → s ∈ table → InTime rack q1 q2 s) → ⊥
  not_late n w q1 q2 d in_time =
      let x = w.first in
      let m = at_split x.before x.after x.stream x.split in
      omega (arith, x.fails, in_time x.stream m, total_same q1 q2 w.q1 w.q2 d w.delays x.stream m)

  one_late : (n n' : ℕ) → FirstLate α rack table n → FirstLate α rack table n' → n ≡ n'
  one_late n n' w v =
      let x = w.first in
      let y = v.first in
      let my = at_split y.before y.after y.stream y.split in
      let same : x.stream ≡ y.stream =
      first_same (InTime rack w.q1 w.q2) x.before y.before x.after y.after x.stream y.stream (sym x.split ∙ y.split) x.earlier
      (λ z m. let e = y.earlier z m in omega (arith, e, total_same w.q1 w.q2 v.q1 v.q2 w.delays v.delays z (at_before y.before y.after y.stream z y.split m)))
      (λ good. omega (arith, good, x.fails))
      (λ good. omega (arith, good, y.fails, total_same w.q1 w.q2 v.q1 v.q2 w.delays v.delays y.stream my)) in
      sym x.named ∙ ap (λ s. s.number) same ∙ y.named

  -- a line fails in one of two ways
  abbrev Failing : (Stream K → ℕ) → ℕ → Option Line → TableFault → Type 0
  Failing q1 l o f =
      ((f ≡ Figure (NoNeed l)) × NeedOf α rack table q1 l o None) ⊎ ((f ≡ Cramped l) × ((n : ℕ) × NeedOf α rack table q1 l o (Some n) × (places_of o < n)))

  failing : (q1 : Stream K → ℕ) (l : ℕ) (o : Option Line) (f : TableFault) → Fails α rack table q1 l o f → Failing q1 l o f
  failing q1 l None f fails = absurd fails
  failing q1 l (Some line) (Figure (NoNeed m)) fails = inl (ap (λ k. Figure (NoNeed k)) fails.0, fails.1)
  failing q1 l (Some line) (Cramped m) fails = inr (ap Cramped fails.0, fails.1)
  failing q1 l (Some line) (Figure (NoDelay s)) fails = absurd fails
  failing q1 l (Some line) (Late s) fails = absurd fails
  failing q1 l (Some line) OutsideLimits fails = absurd fails
  failing q1 l (Some line) Overfull fails = absurd fails
  failing q1 l (Some line) (LineTaken m) fails = absurd fails
  failing q1 l (Some line) (NoLine m) fails = absurd fails
  failing q1 l (Some line) (StreamTaken s) fails = absurd fails
  failing q1 l (Some line) (PriorityTaken s) fails = absurd fails
  failing q1 l (Some line) (TableFull s) fails = absurd fails
  failing q1 l (Some line) (NoStream s) fails = absurd fails

  module _ (q1 q1' : Stream K → ℕ) (same : (s : Stream K) → s ∈ table → q1 s ≡ q1' s) (l : ℕ) where
    some_same : (a b : ℕ) → Some a ≡ Some b → a ≡ b
    some_same a b e = cc

    fits_or_fails : (o : Option Line) (f : TableFault) → Fits α rack table q1 l o → Failing q1' l o f → ⊥
    fits_or_fails None f fits (inl x) = x.1
    fits_or_fails None f fits (inr x) = x.1.1
    fits_or_fails (Some line) f fits (inl x) = some_none (need_one q1 q1' same l (Some line) (Some fits.0) None fits.1 x.1)
    fits_or_fails (Some line) f fits (inr x) =
        omega (arith, fits.2, x.1.2, some_same fits.0 x.1.0 (need_one q1 q1' same l (Some line) (Some fits.0) (Some x.1.0) fits.1 x.1.1))

    one_failing : (o : Option Line) (f f' : TableFault) → Failing q1 l o f → Failing q1' l o f' → f ≡ f'
    one_failing o f f' (inl x) (inl y) = x.0 ∙ sym y.0
    one_failing o f f' (inr x) (inr y) = x.0 ∙ sym y.0
    one_failing o f f' (inl x) (inr y) = some_none (sym (need_one q1 q1' same l o None (Some y.1.0) x.1 y.1.1))
    one_failing o f f' (inr x) (inl y) = some_none (need_one q1 q1' same l o (Some x.1.0) None x.1.1 y.1)

  agree : (q1 q2 q1' q2' : Stream K → ℕ) → Delays α rack table q1 q2 → Delays α rack table q1' q2' → (s : Stream K) → s ∈ table → q1 s ≡ q1' s
  agree q1 q2 q1' q2' d d' s m = ((tables_unique K).same_delays α rack table q1 q2 q1' q2' d d' s m).0

  one_unfit : (f f' : TableFault) → FirstUnfit α rack table f → FirstUnfit α rack table f' → f ≡ f'
  one_unfit f f' w v =
      let x = w.first in
      let y = v.first in
      let there = agree w.q1 w.q2 v.q1 v.q2 w.delays v.delays in
      let back = agree v.q1 v.q2 w.q1 w.q2 v.delays w.delays in
      elim (cases_lt x.line y.line) [
        | inl less ↦ absurd (fits_or_fails v.q1 w.q1 back x.line (line_at rack x.line) f (y.earlier x.line x.low less) (failing w.q1 x.line (line_at rack x.line) f x.fails))
        | inr le ↦
            elim (cases_lt y.line x.line) [
              | inl less ↦ absurd (fits_or_fails w.q1 v.q1 there y.line (line_at rack y.line) f' (x.earlier y.line y.low less) (failing v.q1 y.line (line_at rack y.line) f' y.fails))
              | inr ge ↦
                  let here : y.line ≡ x.line = omega arith in
                  one_failing w.q1 v.q1 there x.line (line_at rack x.line) f f' (failing w.q1 x.line (line_at rack x.line) f x.fails)
                  (subst (λ l. Failing v.q1 l (line_at rack l) f') here (failing v.q1 y.line (line_at rack y.line) f' y.fails))
            ]
      ]

  -- where a table passes, every line fits
  passing_fits : (P : Passing α rack table) (l : ℕ) (o : Option Line) → line_at rack l ≡ o → Fits α rack table P.q1 l o
  passing_fits P l None at = tt
  passing_fits P l (Some line) at = (P.need l, on line.side refl, P.room l line at)
    where
      on : (side : Side) → line.side ≡ side → NeedOn α rack table P.q1 l line.side (Some (P.need l))
      on Inbound e =
          subst (λ s. NeedOn α rack table P.q1 l s (Some (P.need l))) (sym e)
          (P.needs.of_probes l (ap is_inbound at ∙ ap (λ s. elim s [ Inbound ↦ true | Outbound ↦ false ]) e))
      on Outbound e =
          subst (λ s. NeedOn α rack table P.q1 l s (Some (P.need l))) (sym e)
          (P.needs.of_hubs l (ap is_outbound at ∙ ap (λ s. elim s [ Inbound ↦ false | Outbound ↦ true ]) e))

  not_unfit : (f : TableFault) → FirstUnfit α rack table f → Passing α rack table → ⊥
  not_unfit f w P =
      let x = w.first in
      fits_or_fails P.q1 w.q1 (agree P.q1 P.q2 w.q1 w.q2 P.delays w.delays) x.line (line_at rack x.line) f (passing_fits P x.line (line_at rack x.line) refl) (failing w.q1 x.line (line_at rack x.line) f x.fails)

  -- the four answers
  data Outcome (r : Result (Unit {0}) TableFault) : Type 0 where
    passes : Passing α rack table → r ≡ Ok tt → Outcome r
    undelayed : (n : ℕ) → DelaysTold α rack table (Err (NoDelay n)) → r ≡ Err (Figure (NoDelay n)) → Outcome r
    late : (n : ℕ) → FirstLate α rack table n → r ≡ Err (Late n) → Outcome r
    unfit : (f : TableFault) → FirstUnfit α rack table f → r ≡ Err f → Outcome r

  outcome : (r : Result (Unit {0}) TableFault) → CheckTold α rack table r → Outcome r
  outcome (Ok x) told = passes told refl
  outcome (Err (Figure (NoDelay n))) told = undelayed n told refl
  outcome (Err (Late n)) told = late n told refl
  outcome (Err (Figure (NoNeed l))) told = unfit (Figure (NoNeed l)) told refl
  outcome (Err (Cramped l)) told = unfit (Cramped l) told refl
  outcome (Err OutsideLimits) told = absurd told
  outcome (Err Overfull) told = absurd told
  outcome (Err (LineTaken l)) told = absurd told
  outcome (Err (NoLine l)) told = absurd told
  outcome (Err (StreamTaken s)) told = absurd told
  outcome (Err (PriorityTaken s)) told = absurd told
  outcome (Err (TableFull s)) told = absurd told
  outcome (Err (NoStream s)) told = absurd told

  one_outcome : (r r' : Result (Unit {0}) TableFault) → Outcome r → Outcome r' → r ≡ r'
  one_outcome r r' (passes P e) (passes Q e') = e ∙ sym e'
  one_outcome r r' (passes P e) (undelayed n w e') = absurd (not_delayed n w P.q1 P.q2 P.delays)
  one_outcome r r' (passes P e) (late n w e') = absurd (not_late n w P.q1 P.q2 P.delays P.in_time)
  one_outcome r r' (passes P e) (unfit f w e') = absurd (not_unfit f w P)
  one_outcome r r' (undelayed n w e) (passes P e') = absurd (not_delayed n w P.q1 P.q2 P.delays)
  one_outcome r r' (undelayed n w e) (undelayed m v e') = e ∙ ap (λ k. Err (Figure (NoDelay k))) (one_undelayed n m w v) ∙ sym e'
  one_outcome r r' (undelayed n w e) (late m v e') = absurd (not_delayed n w v.q1 v.q2 v.delays)
  one_outcome r r' (undelayed n w e) (unfit f v e') = absurd (not_delayed n w v.q1 v.q2 v.delays)
  one_outcome r r' (late n w e) (passes P e') = absurd (not_late n w P.q1 P.q2 P.delays P.in_time)
  one_outcome r r' (late n w e) (undelayed m v e') = absurd (not_delayed m v w.q1 w.q2 w.delays)
  one_outcome r r' (late n w e) (late m v e') = e ∙ ap (λ k. Err (Late k)) (one_late n m w v) ∙ sym e'
  one_outcome r r' (late n w e) (unfit f v e') = absurd (not_late n w v.q1 v.q2 v.delays v.in_time)
  one_outcome r r' (unfit f w e) (passes P e') = absurd (not_unfit f w P)
  one_outcome r r' (unfit f w e) (undelayed m v e') = absurd (not_delayed m v w.q1 w.q2 w.delays)
  one_outcome r r' (unfit f w e) (late m v e') = absurd (not_late m v w.q1 w.q2 w.delays w.in_time)
  one_outcome r r' (unfit f w e) (unfit f' v e') = e ∙ ap Err (one_unfit f f' w v) ∙ sym e'

pub one_verdict : (K : Type 0) → OneVerdict K
one_verdict K α rack table r r' told told' = one_outcome α rack table r r' (outcome α rack table r told) (outcome α rack table r' told')
