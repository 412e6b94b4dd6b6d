-- Where the table passes, the figure calls tell the figures of every stream and of every line that is there, and
-- whatever figures they tell are those by which it passes.
use Rattle.std.proofs.Common.{◌≡◌, ℕ, zero, suc, ◌-◌, ◌<◌, ◌≤◌, Bool, true, false, not, eqb, ltb, List, [], ◌∷◌, map, length, get_or, Some, None, Ok, Err, Option, sym, refl, ap, ◌∙◌, subst, inl, inr, ⊎_elim, arith}
use Rattle.std.proofs.lemmas.List.{get_or-map}
use Rattle.std.proofs.lemmas.Bool.{and_from, and_parts, both_ways, cases_Bool, cond-true, eq-eqb, eqb-true, le-leb, lt-ltb, not-false, not_from_true}
use Rattle.std.specs.List.{prefix_len}
use Rattle.ports.specs.Limits.{horizon}
use Rattle.figures.specs.declared.delays.Delays.{Delays as Listing}
use Rattle.figures.specs.declared.delays.Figures.{Figures}
use Rattle.figures.specs.declared.delays.StreamFigures.{StreamFigures}
use Rattle.figures.specs.declared.faults.FigureFault.{FigureFault}
use Rattle.figures.specs.declared.faults.FigureFault.TheVariants.{NoDelay, NoNeed}
use Rattle.figures.specs.declared.racks.Line.{Line}
use Rattle.figures.specs.declared.racks.Rack.{Rack}
use Rattle.figures.specs.declared.racks.Side.{Side}
use Rattle.figures.specs.declared.racks.Side.TheVariants.{Inbound, Outbound}
use Rattle.figures.specs.declared.streams.Stream.{Stream}
use Rattle.figures.specs.Racks.{is_inbound, is_outbound, line_at}
use Rattle.figures.specs.Tables.{◌∈◌, HubNeed, Passing, ProbeNeed, total}
use Rattle.figures.specs.Told.{DelaysAre, DelaysTold, FiguresAre, FiguresTold, Listed, NeedOf, NeedOn, NeedTold, NoNeeds, StreamTold}
use Rattle.figures.proofs.Hopwise.{delay_near}
use Rattle.figures.proofs.Items.{at_in}
use Rattle.figures.proofs.Uniqueness.{tables_unique}
use Rattle.runs.proofs.Sound.{line_there}
use Rattle.admission.specs.declared.faults.TableFault.{TableFault}
use Rattle.admission.specs.declared.faults.TableFault.TheVariants.{Figure}
use Rattle.admission.proofs.Parts as parts
use Rattle.admission.proofs.Uniquely.{need_one, one_verdict}
use Rattle.records.specs.declared.lines.LineFigures.{LineFigures}
use Rattle.admission.specs.Limits.{last_line, last_stream}
use Rattle.records.specs.Lists.{number_at}
use Rattle.records.specs.Sound.{Sound}
use Rattle.admission.specs.Fields.{fields_within, within}
use Rattle.records.specs.States.{LineAnswer, LineAsked, LineFigured, State, StreamAnswer, StreamAsked, StreamFigured, all_within, is_there, unknown_line, unknown_stream}
use Rattle.records.proofs.Differ.{differ_distinct}
use Rattle.records.proofs.Fronts.{front_ends, front_on, stop}

-- the front ends before an element that does not pass
front_short : {X : Type 0} (t : X → Bool) (xs : List X) (x : X) → x ∈ xs → t x ≡ false → prefix_len t xs < length xs
front_short t [] x m e = absurd m
front_short t (y ∷ ys) x (inl is) e = omega (arith, front_ends t y ys (sym (ap t is) ∙ e))
front_short t (y ∷ ys) x (inr m) e =
    ⊎_elim (λ a. omega (arith, front_on t y ys a, front_short t ys x m e)) (λ a. omega (arith, front_ends t y ys a))
    (cases_Bool (t y))

fields_of : {K : Type 0} (xs : List (Stream K)) → all_within xs ≡ true → (s : Stream K) → s ∈ xs → fields_within s ≡ true
fields_of [] h s m = absurd m
fields_of (x ∷ xs) h s (inl is) = ap fields_within is ∙ (and_parts (fields_within x) (all_within xs) h).0
fields_of (x ∷ xs) h s (inr m) = fields_of xs (and_parts (fields_within x) (all_within xs) h).1 s m

within_from : (low n high : ℕ) → low ≤ n → n ≤ high → within low n high ≡ true
within_from low n high a b = and_from _ _ (le-leb low n a) (le-leb n high b)

all_near : {K : Type 0} (q : Stream K → ℕ) (xs : List (Stream K)) → ((s : Stream K) → s ∈ xs → q s ≤ horizon)
    → (i : ℕ) → get_or (map q xs) i 0 ≤ horizon
all_near q [] h i = omega arith
all_near q (x ∷ xs) h zero = h x (inl refl)
all_near q (x ∷ xs) h (suc i) = all_near q xs (λ s m. h s (inr m)) i

some_line : (o : Option Line) → is_there o ≡ true → (line : Line) × (o ≡ Some line)
some_line (Some line) e = (line, refl)
some_line None e = absurd (both_ways (is_there None) refl e)

ok_err : {X : Type 0} {x : X} {fault : TableFault} → Ok x ≡ Err fault → ⊥
ok_err e = let z : ◌≡◌ {A = ℕ} 0 1 = cc in omega arith

none_some : {a : ℕ} → ◌≡◌ {A = Option ℕ} None (Some a) → ⊥
none_some e = let z : ◌≡◌ {A = ℕ} 0 1 = cc in omega arith

some_same : (a b : ℕ) → ◌≡◌ {A = Option ℕ} (Some a) (Some b) → a ≡ b
some_same a b e = cc

module _ {K : Type 0} (α : K → ℕ → ℕ) (rack : Rack) (table : List (Stream K)) (l : ℕ) where
  -- the need on the side that the line has
  on_side : (q1 : Stream K → ℕ) (r : Option ℕ) (side : Side)
      → (elim side [ Inbound ↦ true | Outbound ↦ false ] ≡ true → ProbeNeed α rack table l r)
      → (elim side [ Inbound ↦ false | Outbound ↦ true ] ≡ true → HubNeed α rack table q1 l r) → NeedOn α rack table q1 l side r
  on_side q1 r Inbound a b = a refl
  on_side q1 r Outbound a b = b refl

module _ {K : Type 0} (st : State K) (S : Sound st) where
  -- a stream of the table stands at the place of its number
  place_of_number : (s : Stream K) → s ∈ st.streams → number_at s.number st.streams < length st.streams
  place_of_number s m =
      front_short (λ x. not (eqb x.number s.number)) st.streams s m (not_from_true _ (eq-eqb _ _ refl))

  stream_there : (s : Stream K) (m : s ∈ st.streams) (d : Stream K)
      → s ≡ get_or st.streams (number_at s.number st.streams) d
  stream_there s m d =
      let at = number_at s.number st.streams in
      let less = place_of_number s m in
      differ_distinct st.streams S.differ s (get_or st.streams at d) m (at_in st.streams at d less)
      (sym (eqb-true _ _ (not-false _ (stop (λ x. not (eqb x.number s.number)) st.streams d less))))

  -- a call that names it is not refused
  stream_known : (s : Stream K) → s ∈ st.streams → unknown_stream st s.number ≡ None
  stream_known s m =
      let good = fields_of st.streams S.fields s m in
      cond-true (within 1 s.number last_stream) _ _ (and_parts (within 1 s.number last_stream) _ good).0
      ∙ cond-true (ltb (number_at s.number st.streams) (length st.streams)) _ _ (lt-ltb _ _ (place_of_number s m))

  line_known : (l : ℕ) → is_there (line_at st.rack l) ≡ true → unknown_line st l ≡ None
  line_known l e =
      let p = line_there st.rack is_there refl l e in
      cond-true (within 1 l last_line) _ _ (within_from 1 l last_line p.0 (omega (arith, p.1, S.sixteen)))
      ∙ cond-true (is_there (line_at st.rack l)) _ _ e

-- what the figures of a whole table tell is what the figure calls tell
module _ {K : Type 0} (α : K → ℕ → ℕ) (st : State K) (S : Sound st) where
  -- of the stream at the place i
  pub stream_by_delays : (delays : Listing) → DelaysAre α st.rack st.streams delays → (i : ℕ) (s d : Stream K) → i < length st.streams
      → s ≡ get_or st.streams i d → (told : StreamFigures) → StreamTold st.rack st.streams delays i told → StreamAnswer α st s.number (Ok told)
  stream_by_delays delays are i s d less is told t =
      let m = subst (λ x. x ∈ st.streams) (sym is) (at_in st.streams i d less) in
      let at = number_at s.number st.streams in
      let there = place_of_number st S s m in
      let same : (e : Stream K) → get_or st.streams i d ≡ get_or st.streams at e = λ e. sym is ∙ stream_there st S s m e in
      let by_number : StreamTold st.rack st.streams delays at told =
      record {
        there = there;
        q1_is = t.q1_is ∙ are.first_listed i less d ∙ ap are.q1 (same d) ∙ sym (are.first_listed at there d);
        q2_is = t.q2_is ∙ are.second_listed i less d ∙ ap are.q2 (same d) ∙ sym (are.second_listed at there d);
        total_is = λ e. t.total_is d ∙ ap (total st.rack told.q1 told.q2) (same e);
      } in
      subst (λ o. StreamAsked α st o s.number (Ok told)) (sym (stream_known st S s m)) (delays, are, by_number)

  -- of the line n
  pub line_by_figures : (figures : Figures) → FiguresAre α st.rack st.streams figures → (n : ℕ) → 1 ≤ n → n ≤ 16 → (line : Line)
      → line_at st.rack n ≡ Some line → (need : ℕ) → get_or figures.needs (n - 1) None ≡ Some need
      → LineAnswer α st n (Ok (record { need = need; places = line.places }))
  line_by_figures figures are n low high line there need is =
      let told : LineFigures = record { need = need; places = line.places } in
      let figured : LineFigured α st n told =
      record {
        q1 = are.delays_are.q1;
        q2 = are.delays_are.q2;
        delays = are.delays_are.are;
        line = line;
        there = there;
        need_is =
            subst (λ o. NeedOf α st.rack st.streams are.delays_are.q1 n o (Some need)) there
            (subst (λ r. NeedTold α st.rack st.streams are.delays_are.q1 n (Ok r)) is (are.needs_are n low high));
        places_are = refl;
      } in
      subst (λ o. LineAsked α st o n (Ok told)) (sym (line_known st S n (ap is_there there))) figured

module _ {K : Type 0} (α : K → ℕ → ℕ) (st : State K) (S : Sound st) (P : Passing α st.rack st.streams) where
  abbrev listing : Listing
  listing =
      record {
        q1 = map P.q1 st.streams;
        q2 = map P.q2 st.streams;
        near = all_near P.q1 st.streams (λ s m. delay_near _ _ _ (Some (P.q1 s)) (P.delays.at_probe s m));
        near_too = all_near P.q2 st.streams (λ s m. delay_near _ _ _ (Some (P.q2 s)) (P.delays.at_hub s m));
      }

  listed : (q : Stream K → ℕ) → Listed q st.streams (map q st.streams)
  listed q i h d = get_or-map q st.streams i d 0 h

  delays_are : DelaysAre α st.rack st.streams listing
  delays_are =
      record {
        q1 = P.q1;
        q2 = P.q2;
        are = P.delays;
        first_listed = listed P.q1;
        second_listed = listed P.q2;
      }

  abbrev stream_figures : Stream K → StreamFigures
  stream_figures s = record { q1 = P.q1 s; q2 = P.q2 s; total = total st.rack (P.q1 s) (P.q2 s) s }

  pub streams_told : (s : Stream K) → s ∈ st.streams → (told : StreamFigures) × StreamAnswer α st s.number (Ok told)
  streams_told s m =
      let at = number_at s.number st.streams in
      let there = place_of_number st S s m in
      let is = stream_there st S s m in
      let told : StreamTold st.rack st.streams listing at (stream_figures s) =
      record {
        there = there;
        q1_is = ap P.q1 (is s) ∙ sym (listed P.q1 at there s);
        q2_is = ap P.q2 (is s) ∙ sym (listed P.q2 at there s);
        total_is = λ d. ap (total st.rack (P.q1 s) (P.q2 s)) (is d);
      } in (
        stream_figures s,
        subst (λ o. StreamAsked α st o s.number (Ok (stream_figures s))) (sym (stream_known st S s m))
            (listing, delays_are, told),
      )

  pub told_total : (s : Stream K) → s ∈ st.streams → (told : StreamFigures) → StreamAnswer α st s.number (Ok told)
      → told.total ≡ total st.rack (P.q1 s) (P.q2 s) s
  told_total s m told answer =
      let f : StreamFigured α st (number_at s.number st.streams) (Ok told) =
      subst (λ o. StreamAsked α st o s.number (Ok told)) (stream_known st S s m) answer in
      let are = f.1 in
      let same = (tables_unique K).same_delays α st.rack st.streams are.q1 are.q2 P.q1 P.q2 are.are P.delays s m in
      parts.told_total st.rack st.streams f.0 are.q1 are.q2 are.first_listed are.second_listed
      (number_at s.number st.streams) told f.2 s (stream_there st S s m s)
      ∙ (ap (λ n. total st.rack n (are.q2 s) s) same.0 ∙ ap (λ n. total st.rack (P.q1 s) n s) same.1)

  -- the need by which the table passes, on the side of the line
  need_of : (l : ℕ) (line : Line) → line_at st.rack l ≡ Some line
      → NeedOf α st.rack st.streams P.q1 l (Some line) (Some (P.need l))
  need_of l line at =
      on_side α st.rack st.streams l P.q1 (Some (P.need l)) line.side
      (λ e. P.needs.of_probes l (ap is_inbound at ∙ e)) (λ e. P.needs.of_hubs l (ap is_outbound at ∙ e))

  pub lines_told : (l : ℕ) → is_there (line_at st.rack l) ≡ true → (told : LineFigures) × LineAnswer α st l (Ok told)
  lines_told l e =
      let p = some_line (line_at st.rack l) e in
      let told : LineFigures = record { need = P.need l; places = p.0.places } in
      let figured : LineFigured α st l told =
      record {
        q1 = P.q1;
        q2 = P.q2;
        delays = P.delays;
        line = p.0;
        there = p.1;
        need_is = need_of l p.0 p.1;
        places_are = refl;
      } in
      (told, subst (λ o. LineAsked α st o l (Ok told)) (sym (line_known st S l e)) figured)

  line_figured : (l : ℕ) (told : LineFigures) (o : Option TableFault) → LineAsked α st o l (Ok told) → LineFigured α st l told
  line_figured l told (Some fault) h = absurd (ok_err h)
  line_figured l told None h = h

  pub told_need : (l : ℕ) (told : LineFigures) → LineAnswer α st l (Ok told) → told.need ≡ P.need l
  told_need l told answer =
      let f = line_figured l told (unknown_line st l) answer in
      some_same told.need (P.need l)
      (need_one α st.rack st.streams f.q1 P.q1
      (λ s m. ((tables_unique K).same_delays α st.rack st.streams f.q1 f.q2 P.q1 P.q2 f.delays P.delays s m).0)
      l (Some f.line) (Some told.need) (Some (P.need l)) f.need_is (need_of l f.line f.there))

  pub told_places : (l : ℕ) (told : LineFigures) → LineAnswer α st l (Ok told) → (line : Line)
      → line_at st.rack l ≡ Some line → told.places ≡ line.places
  told_places l told answer line at =
      let f = line_figured l told (unknown_line st l) answer in
      let same : Some f.line ≡ Some line = sym f.there ∙ at in
      let one : f.line ≡ line = cc in
      f.places_are ∙ ap (λ x. x.places) one

  pub told_fits : (l : ℕ) (told : LineFigures) → LineAnswer α st l (Ok told) → told.need ≤ told.places
  told_fits l told answer =
      let f = line_figured l told (unknown_line st l) answer in
      omega (arith, told_need l told answer, f.places_are, P.room l f.line f.there)

  -- no figure is missing
  need_never : (q1 : Stream K → ℕ) → ((s : Stream K) → s ∈ st.streams → q1 s ≡ P.q1 s) → (l : ℕ) (o : Option Line) → line_at st.rack l ≡ o
      → NeedOf α st.rack st.streams q1 l o None → ⊥
  need_never q1 same l None at h = h
  need_never q1 same l (Some line) at h =
      none_some (need_one α st.rack st.streams q1 P.q1 same l (Some line) None (Some (P.need l)) h (need_of l line at))

  needs_there : (x : FigureFault) → NoNeeds α st.rack st.streams x → ⊥
  needs_there (NoNeed m) n =
      need_never n.are.q1 (λ s m. ((tables_unique K).same_delays α st.rack st.streams n.are.q1 n.are.q2 P.q1 P.q2 n.are.are P.delays s m).0)
      n.never.line (line_at st.rack n.never.line) refl n.never.never.1
  needs_there (NoDelay m) n = n.never.never

  delays_there : (x : FigureFault) → DelaysTold α st.rack st.streams (Err x) → ⊥
  delays_there (NoDelay m) told = ok_err (one_verdict K α st.rack st.streams (Ok tt) (Err (Figure (NoDelay m))) P told)
  delays_there (NoNeed l) told = told

  pub figures_there : (x : FigureFault) → FiguresTold α st.rack st.streams (Err x) → ⊥
  figures_there x (inl told) = delays_there x told
  figures_there x (inr n) = needs_there x n
