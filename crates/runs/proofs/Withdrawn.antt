-- A table without one of its streams: it has its figures still, none is greater, and so it passes.
use Rattle.std.proofs.Common.{◌≡◌, ℕ, ◌+◌, ◌-◌, ◌/◌, ◌<◌, ◌≤◌, min, Bool, true, false, cond, ◌&&◌, eqb, ltb, List, [], ◌∷◌, ◌++◌, length, Some, None, Option, sym, refl, ap, subst, inl, inr, ⊎_elim, arith, length-append}
use native.Mathlib.Nat.{le-min, min-le_left, min-le_right}
use Rattle.std.proofs.lemmas.Bool.{and_from, and_parts, cases_Bool, cond_both, both_ways, eqb-true, eqb-false, le-leb, ltb-true, lt-ltb}
use Rattle.arrivals.specs.Limits.{longest}
use Rattle.arrivals.specs.Delays.{delayed}
use Rattle.figures.specs.declared.racks.Line.{Line}
use Rattle.figures.specs.declared.racks.Rack.{Rack}
use Rattle.figures.specs.declared.racks.Side.{Side}
use Rattle.figures.specs.declared.racks.Side.TheVariants.{Inbound, Outbound}
use Rattle.figures.specs.declared.streams.Stream.{Stream}
use Rattle.figures.specs.Limits.{most_streams}
use Rattle.ports.specs.Port.{Need}
use Rattle.figures.specs.Racks.{numbers, line_at, cell_time, spread, is_inbound, is_outbound}
use Rattle.ports.specs.Loads.{Lawful}
use Rattle.figures.specs.Tables.{◌∈◌, over, Distinct, falls_under, placed, all_placed, table_kept, hub_bound, probe_higher, hub_higher, FirstDelay, SecondDelay, probe_load, from_line, hub_load, Delays, Needs}
use Rattle.figures.specs.GroupSums.{seen_some}
use Rattle.figures.proofs.TableFacts.{rack_is_kept, few, falls, are_placed}
use Rattle.runs.specs.Count.{during}
use Rattle.runs.specs.Run.{brought}
use Rattle.runs.specs.Promise.{FiguresFall, Withdrawal, RunsStay}
use Rattle.runs.proofs.Counts.{some_or_none, count_none}
use Rattle.runs.proofs.During.{during_out}
use Rattle.runs.proofs.Listed.{sums_le, over_le, sums_without, still_in, one_or_in}
use Rattle.runs.proofs.Falls.{delay_falls, need_falls}

-- a function, from an answer for each element of a list
pub choose_for : {X : Type 0} (key : X → ℕ) (P : X → ℕ → Type 0) (xs : List X)
    → ((x y : X) → x ∈ xs → y ∈ xs → key x ≡ key y → x ≡ y) → ((x : X) → x ∈ xs → (n : ℕ) × P x n)
    → (f : X → ℕ) × ((x : X) → x ∈ xs → P x (f x))
choose_for key P [] one ex = (λ _. 0, λ x m. absurd m)
choose_for {X} key P (y ∷ ys) one ex =
    go (choose_for key P ys (λ x z a b. one x z (inr a) (inr b)) (λ x m. ex x (inr m)))
  where
    first : (n : ℕ) × P y n
    first = ex y (inl refl)

    go : (f : X → ℕ) × ((x : X) → x ∈ ys → P x (f x)) → (f : X → ℕ) × ((x : X) → x ∈ (y ∷ ys) → P x (f x))
    go r = (
      λ x. cond (eqb (key x) (key y)) first.0 (r.0 x),
      λ x m. cond_both (eqb (key x) (key y)) first.0 (r.0 x) (P x)
          (λ e. subst (λ z. P z first.0) (sym (one x y m (inl refl) (eqb-true _ _ e))) first.1)
          (λ e. ⊎_elim (λ a. absurd (eqb-false _ _ e (ap key a))) (r.1 x) m),
    )

-- a line has one side
pub not_both_sides : (line : Option Line) → is_inbound line ≡ true → is_outbound line ≡ true → ⊥
not_both_sides (Some line) a b = go line.side a b
  where
    go : (side : Side) → ◌≡◌ {A = Bool} (elim side [ Inbound ↦ true | Outbound ↦ false ]) true
        → ◌≡◌ {A = Bool} (elim side [ Inbound ↦ false | Outbound ↦ true ]) true → ⊥
    go Inbound a b = both_ways false refl b
    go Outbound a b = both_ways false refl a
not_both_sides None a b = both_ways false refl a

-- the rules of a table without one of its streams
falls_higher : {K : Type 0} (low high : ℕ) (ys : List (Stream K)) → low ≤ high → falls_under low ys ≡ true
    → falls_under high ys ≡ true
falls_higher low high [] l h = refl
falls_higher low high (y ∷ ys) l h =
    let o = and_parts (ltb y.priority low) (falls_under y.priority ys) h in
    let b = ltb-true y.priority low o.0 in
    and_from _ _ (lt-ltb y.priority high (omega arith)) o.1

falls_without : {K : Type 0} (high : ℕ) (xs ys : List (Stream K)) (s : Stream K)
    → falls_under high (xs ++ s ∷ ys) ≡ true → falls_under high (xs ++ ys) ≡ true
falls_without high [] ys s h =
    let o = and_parts (ltb s.priority high) (falls_under s.priority ys) h in
    let b = ltb-true s.priority high o.0 in
    falls_higher s.priority high ys (omega arith) o.1
falls_without high (x ∷ xs) ys s h =
    let o = and_parts (ltb x.priority high) (falls_under x.priority (xs ++ s ∷ ys)) h in
    and_from _ _ o.0 (falls_without x.priority xs ys s o.1)

placed_without : {K : Type 0} (rack : Rack) (xs ys : List (Stream K)) (s : Stream K)
    → all_placed rack (xs ++ s ∷ ys) ≡ true → all_placed rack (xs ++ ys) ≡ true
placed_without rack [] ys s h = (and_parts (placed rack s) (all_placed rack ys) h).1
placed_without rack (x ∷ xs) ys s h =
    let o = and_parts (placed rack x) (all_placed rack (xs ++ s ∷ ys)) h in
    and_from _ _ o.0 (placed_without rack xs ys s o.1)

pub kept_without : {K : Type 0} (rack : Rack) (xs ys : List (Stream K)) (s : Stream K)
    → table_kept rack (xs ++ s ∷ ys) ≡ true → table_kept rack (xs ++ ys) ≡ true
kept_without rack xs ys s h =
    let full = xs ++ s ∷ ys in
    let l = few rack full h in
    and_from _ _ (rack_is_kept rack full h) (and_from _ _
    (le-leb (length (xs ++ ys)) most_streams (omega (arith, length-append xs ys, length-append xs (s ∷ ys))))
    (and_from _ _ (falls_without 256 xs ys s (falls rack full h))
    (placed_without rack xs ys s (are_placed rack full h))))

pub distinct_without : {K : Type 0} (xs ys : List (Stream K)) (s : Stream K) → Distinct (xs ++ s ∷ ys)
    → Distinct (xs ++ ys)
distinct_without xs ys s d x z a b = d x z (still_in xs ys s x a) (still_in xs ys s z b)

min_le : (a b c d : ℕ) → a ≤ b → c ≤ d → min a c ≤ min b d
min_le a b c d x y =
    let l : min a c ≤ b = omega (arith, min-le_left a c) in
    let m : min a c ≤ d = omega (arith, min-le_right a c) in
    le-min l m

-- a delayed kind rises with the window and with the delay
pub delayed_le : {K : Type 0} (α : K → ℕ → ℕ) → Lawful α → (k : K) (i j u w : ℕ) → i ≤ j → u ≤ w
    → delayed (α k) i u ≤ delayed (α k) j w
delayed_le α lawful k i j u w a b =
    cond_both (eqb u 0) 0 (α k (min (u + i) longest)) (λ n. n ≤ delayed (α k) j w) (λ _. omega arith)
    (λ e. cond_both (eqb w 0) 0 (α k (min (w + j) longest)) (λ n. α k (min (u + i) longest) ≤ n)
    (λ z. absurd (eqb-false u 0 e (omega (arith, eqb-true w 0 z))))
    (λ _. lawful.rises k (min (u + i) longest) (min (w + j) longest)
    (min_le (u + i) (w + j) longest longest (omega arith) (omega arith)) (min-le_right (w + j) longest)))

module _ {K : Type 0} (α : K → ℕ → ℕ) (rack : Rack) (xs ys : List (Stream K)) (s : Stream K) (lawful : Lawful α)
    (q1 q2 : Stream K → ℕ) (need : ℕ → ℕ) (D : Delays α rack (xs ++ s ∷ ys) q1 q2)
    (N : Needs α rack (xs ++ s ∷ ys) q1 need) where
  abbrev full : List (Stream K)
  full = xs ++ s ∷ ys

  abbrev rest : List (Stream K)
  rest = xs ++ ys

  still : (z : Stream K) → z ∈ rest → z ∈ full
  still z m = still_in xs ys s z m

  -- less comes of fewer streams that each bring less
  over_less : (p : Stream K → Bool) (f g : Stream K → ℕ) → ((z : Stream K) → z ∈ rest → f z ≤ g z)
      → over p f rest ≤ over p g full
  over_less p f g h = omega (arith, over_le p f g rest h, sums_without (λ z. cond (p z) (g z) 0) xs ys s)

  rising : (z : Stream K) (u w : ℕ) → u ≤ w → w ≤ longest → α z.kind u ≤ α z.kind w
  rising z = lawful.rises z.kind

  probe_less : (z : Stream K) → z ∈ rest → (q : ℕ) × (FirstDelay α rack rest z (Some q) × (q ≤ q1 z))
  probe_less z m =
      let at = λ (y : Stream K). eqb y.inbound z.inbound && ltb z.priority y.priority in
      let d = delay_falls (cell_time rack z.inbound) (α z.kind) (probe_higher α rack full z) (α z.kind)
      (probe_higher α rack rest z)
      (q1 z) (D.at_probe z (still z m)) (λ w. omega arith)
      (λ w. over_less at (λ y. α y.kind w) (λ y. α y.kind w) (λ y _. omega arith))
      (rising z) (λ u w a b. over_le at (λ y. α y.kind u) (λ y. α y.kind w) rest (λ y _. rising y u w a b))
      (lawful.some z.kind) in
      (d.0, (d.1, d.2))

  module _ (q1' : Stream K → ℕ) (less : (z : Stream K) → z ∈ rest → q1' z ≤ q1 z) where
    abbrev later : Stream K → ℕ → ℕ
    later = hub_bound α rack q1'

    later_less : (z : Stream K) → z ∈ rest → (w : ℕ) → later z w ≤ hub_bound α rack q1 z w
    later_less z m w =
        let l = less z m in
        delayed_le α lawful z.kind (q1' z + spread rack) (q1 z + spread rack) w w (omega arith)
        (omega arith)

    later_rising : (z : Stream K) (u w : ℕ) → u ≤ w → later z u ≤ later z w
    later_rising z u w a = delayed_le α lawful z.kind (q1' z + spread rack) (q1' z + spread rack) u w
        (omega arith) a

    hub_less : (z : Stream K) → z ∈ rest → (q : ℕ) × (SecondDelay α rack rest q1' z (Some q) × (q ≤ q2 z))
    hub_less z m =
        let at = λ (y : Stream K). eqb y.outbound z.outbound && ltb z.priority y.priority in
        let d = delay_falls (cell_time rack z.outbound) (hub_bound α rack q1 z) (hub_higher α rack full q1 z)
        (later z) (hub_higher α rack rest q1' z)
        (q2 z) (D.at_hub z (still z m)) (later_less z m)
        (λ w. over_less at (λ y. later y w) (λ y. hub_bound α rack q1 y w) (λ y n. later_less y n w))
        (λ u w a b. later_rising z u w a)
        (λ u w a b. over_le at (λ y. later y u) (λ y. later y w) rest (λ y _. later_rising y u w a))
        (seen_some α lawful (Some (q1' z + spread rack)) z.kind) in
        (d.0, (d.1, d.2))

    from_line_less : (l u : ℕ) (line : Option Line) (i : ℕ)
        → from_line α rack rest q1' l u line i ≤ from_line α rack full q1 l u line i
    from_line_less l u (Some line) i =
        let at = λ (z : Stream K). eqb z.inbound i && eqb z.outbound l in
        let rate = (u - 1 + spread rack) / line.cell_time + 1 in
        min_le rate rate (over at (λ z. later z u) rest) (over at (λ z. hub_bound α rack q1 z u) full) (omega arith)
        (over_less at (λ z. later z u) (λ z. hub_bound α rack q1 z u) (λ z n. later_less z n u))
    from_line_less l u None i = omega arith

    -- n is the need of the line l, on whichever side it is, and no greater than before
    abbrev LessNeed : ℕ → ℕ → Type 0
    LessNeed l n =
        (is_inbound (line_at rack l) ≡ true → Need (cell_time rack l) (probe_load α rack rest l) n)
        × (is_outbound (line_at rack l) ≡ true → Need (cell_time rack l) (hub_load α rack rest q1' l) n) × (n ≤ need l)

    need_less : (l : ℕ) → (n : ℕ) × LessNeed l n
    need_less l =
        ⊎_elim inward (λ no_in. ⊎_elim outward (λ no_out. neither no_in no_out)
        (cases_Bool (is_outbound (line_at rack l))))
        (cases_Bool (is_inbound (line_at rack l)))
      where
        inward : is_inbound (line_at rack l) ≡ true → (n : ℕ) × LessNeed l n
        inward e =
            let n = need_falls (cell_time rack l) (probe_load α rack full l) (probe_load α rack rest l) (need l)
            (N.of_probes l e)
            (λ u. over_less (λ z. eqb z.inbound l) (λ z. α z.kind u) (λ z. α z.kind u) (λ z _. omega arith)) in
            (n.0, (λ _. n.1, λ f. absurd (not_both_sides (line_at rack l) e f), n.2))

        outward : is_outbound (line_at rack l) ≡ true → (n : ℕ) × LessNeed l n
        outward e =
            let n = need_falls (cell_time rack l) (hub_load α rack full q1 l) (hub_load α rack rest q1' l) (need l)
            (N.of_hubs l e)
            (λ u. sums_le (λ i. from_line α rack rest q1' l u (line_at rack i) i)
            (λ i. from_line α rack full q1 l u (line_at rack i) i) numbers
            (λ i _. from_line_less l u (line_at rack i) i)) in
            (n.0, (λ f. absurd (not_both_sides (line_at rack l) f e), λ _. n.1, n.2))

        neither : is_inbound (line_at rack l) ≡ false → is_outbound (line_at rack l) ≡ false → (n : ℕ) × LessNeed l n
        neither a b = (
          0,
          (
            λ e. absurd (both_ways (is_inbound (line_at rack l)) a e),
            λ e. absurd
                (both_ways (is_outbound (line_at rack l)) b e),
            omega arith,
          ),
        )

pub figures_fall : (K : Type 0) → FiguresFall K
figures_fall K α rack xs ys s lawful distinct q1 q2 need D N =
    let one = distinct_without xs ys s distinct in
    let a = choose_for (λ z. z.number) (λ z q. FirstDelay α rack (xs ++ ys) z (Some q) × (q ≤ q1 z)) (xs ++ ys) one
    (probe_less α rack xs ys s lawful q1 q2 need D N) in
    let less = λ (z : Stream K) (m : z ∈ (xs ++ ys)). (a.1 z m).1 in
    let b = choose_for (λ z. z.number) (λ z q. SecondDelay α rack (xs ++ ys) a.0 z (Some q) × (q ≤ q2 z)) (xs ++ ys)
    one
    (hub_less α rack xs ys s lawful q1 q2 need D N a.0 less) in
    let c = need_less α rack xs ys s lawful q1 q2 need D N a.0 less in (
      a.0,
      b.0,
      λ l. (c l).0,
      record {
        at_probe = λ z m. (a.1 z m).0;
        at_hub = λ z m. (b.1 z m).0;
      },
      record {
        of_probes = λ l. (c l).1.0;
        of_hubs = λ l. (c l).1.1;
      },
      λ z m. ((a.1 z m).1, (b.1 z m).1),
      λ l. (c l).1.2,
    )

pub withdrawal : (K : Type 0) → Withdrawal K
withdrawal K α rack xs ys s lawful P =
    let f = figures_fall K α rack xs ys s lawful P.distinct P.q1 P.q2 P.need P.delays P.needs in
    record {
      kept = kept_without rack xs ys s P.kept;
      distinct = distinct_without xs ys s P.distinct;
      q1 = f.0;
      q2 = f.1;
      need = f.2;
      delays = f.3;
      needs = f.4;
      in_time = λ z m. let l = f.5 z m in omega (arith, P.in_time z (still_in xs ys s z m));
      room = λ l line e. omega (arith, f.6 l, P.room l line e);
    }

pub runs_stay : (K : Type 0) → RunsStay K
runs_stay K α rack xs ys s distinct r R =
    record {
      known = λ k l. still_in xs ys s (r.cell k).stream (R.known k l);
      bounded = λ z m t w a b. ⊎_elim (λ e. of_s z e t w a b) (λ n. R.bounded z n t w a b) (one_or_in xs ys s z m);
      sent_after = R.sent_after;
      moved_after = R.moved_after;
      moved_by = R.moved_by;
      left_after = R.left_after;
      at_probes = R.at_probes;
      at_hubs = R.at_hubs;
    }
  where
    came : Stream K → ℕ → Bool
    came z k = eqb (r.cell k).stream.number z.number && ltb (r.cell k).queued r.end

    is_s : (us : List (Stream K)) → s ∈ (us ++ s ∷ ys)
    is_s [] = inl refl
    is_s (u ∷ us) = inr (is_s us)

    is_in : (z : Stream K) → z ≡ s → (k : ℕ) → k < r.cells → came z k ≡ true → z ∈ (xs ++ ys)
    is_in z e k l h =
        let n = eqb-true _ _ (and_parts (eqb (r.cell k).stream.number z.number) _ h).0 in
        let same = distinct (r.cell k).stream z (still_in xs ys s (r.cell k).stream (R.known k l)) (rw e (is_s xs))
        n in
        rw same at (R.known k l)

    of_s : (z : Stream K) → z ≡ s → (t w : ℕ) → 1 ≤ w → w ≤ longest → brought r z t w ≤ α z.kind w
    of_s z e t w a b =
        ⊎_elim (λ k. R.bounded z (is_in z e k.0 k.1 k.2) t w a b)
        (λ f. omega (
          arith,
          count_none (during (came z) (λ k. (r.cell k).queued) t (t + w)) r.cells
              (λ k l h. f k l (during_out (came z) (λ k. (r.cell k).queued) t (t + w) k h).0),
        ))
        (some_or_none (came z) r.cells)
