-- The worked plan, by computation.
use Rattle.std.proofs.Common.{◌≡◌, ℕ, ◌+◌, ◌-◌, ◌*◌, ◌/◌, ◌<◌, ◌≤◌, Bool, true, cond, eqb, leb, Some, None, Option, sym, refl, subst, inl, inr, ⊎_elim, arith}
use lib.ListN.{get_or-eq_default}
use Rattle.std.proofs.lemmas.Bool.{cases_lt, eqb-true, ne_eqb, leb-true}
use Rattle.arrivals.specs.Delays.{delayed}
use Rattle.arrivals.specs.Least.{Least}
use Rattle.arrivals.specs.Messages.{message_alpha}
use Rattle.figures.specs.declared.racks.Line.{Line}
use Rattle.figures.specs.declared.streams.Stream.{Stream}
use Rattle.ports.specs.Port.{Starts, Wait, Queued}
use Rattle.figures.specs.Racks.{line_at, is_inbound, is_outbound}
use Rattle.figures.specs.Tables.{◌∈◌, probe_bound, hub_bound, total, probe_higher, hub_higher, FirstDelay, SecondDelay, probe_load, hub_load, ProbeNeed, HubNeed, Passing}
use Rattle.figures.specs.Worked.{rack_12, Kind, kind_alpha, stream_10, stream_11, table_12, first_12, second_12, rateless_load, quick, WorkedPlan}
use Rattle.figures.proofs.Uniqueness.{least_same}
use Rattle.figures.proofs.Computed.{all_below, at_each, least_eq, least_eq_test, least_pos, least_pos_test, largest, largest_test, wait_is, wait_test, early_is, early_test, delay_is, delay_test, clears_is, clears_test, need_is, need_test}

first_10 : FirstDelay kind_alpha rack_12 table_12 stream_10 (Some 1)
unfolding delay_test
first_10 = delay_is 2 (probe_bound kind_alpha stream_10) (probe_higher kind_alpha rack_12 table_12 stream_10) (λ _. 1) (λ _. 0) 0 1 0 refl

first_11 : FirstDelay kind_alpha rack_12 table_12 stream_11 (Some 9)
unfolding delay_test
first_11 =
    delay_is 2 (probe_bound kind_alpha stream_11) (probe_higher kind_alpha rack_12 table_12 stream_11) (λ k. 7 + 2 * k) (λ _. 0) 1 9 1 refl

second_10 : SecondDelay kind_alpha rack_12 table_12 first_12 stream_10 (Some 1)
unfolding delay_test
second_10 =
    delay_is 1 (hub_bound kind_alpha rack_12 first_12 stream_10) (hub_higher kind_alpha rack_12 table_12 first_12 stream_10) (λ k. k) (λ k. k - 1) 2 1 1 refl

second_11 : SecondDelay kind_alpha rack_12 table_12 first_12 stream_11 (Some 5)
unfolding delay_test
second_11 =
    delay_is 1 (hub_bound kind_alpha rack_12 first_12 stream_11) (hub_higher kind_alpha rack_12 table_12 first_12 stream_11) (λ k. 3 + k) (λ _. 0) 2 5 2 refl

need_1 : ProbeNeed kind_alpha rack_12 table_12 1 (Some 4)
unfolding need_test
need_1 = need_is 2 (probe_load kind_alpha rack_12 table_12 1) 13 4 3 refl

need_2 : HubNeed kind_alpha rack_12 table_12 first_12 2 (Some 2)
unfolding need_test
need_2 = need_is 1 (hub_load kind_alpha rack_12 table_12 first_12 2) 2 2 1 refl

-- what holds of both streams holds of each
each_stream : (P : Stream Kind → Type 0) → P stream_10 → P stream_11 → (s : Stream Kind) → s ∈ table_12 → P s
each_stream P a b s (inl e) = subst P (sym e) a
each_stream P a b s (inr (inl e)) = subst P (sym e) b
each_stream P a b s (inr (inr m)) = absurd m

-- what passes at the numbers up to 16, and where there is no line, passes at each number
each_line : (p : ℕ → Option Line → Bool) → all_below (λ l. p l (line_at rack_12 l)) 17 ≡ true → ((l : ℕ) → p l None ≡ true) → (l : ℕ) → p l (line_at rack_12 l) ≡ true
each_line p low high l =
    ⊎_elim (λ (a : l < 17). at_each (λ l. p l (line_at rack_12 l)) 17 l a low)
    (λ (a : 17 ≤ l). rw (beyond a) (high l)) (cases_lt l 17)
  where
    beyond : 17 ≤ l → line_at rack_12 l ≡ None
    beyond a =
        let h : 16 ≤ l - 1 = omega arith in
        rw (ne_eqb l 0 (λ e. omega arith)) (get_or-eq_default rack_12.lines None {n = l - 1} h)

inbound_is : (l : ℕ) → is_inbound (line_at rack_12 l) ≡ true → l ≡ 1
unfolding all_below
inbound_is l e =
    let h = each_line (λ l o. cond (is_inbound o) (eqb l 1) true) refl (λ _. refl) l in
    eqb-true l 1 (subst (λ b. cond b (eqb l 1) true ≡ true) e h)

outbound_is : (l : ℕ) → is_outbound (line_at rack_12 l) ≡ true → l ≡ 2
unfolding all_below
outbound_is l e =
    let h = each_line (λ l o. cond (is_outbound o) (eqb l 2) true) refl (λ _. refl) l in
    eqb-true l 2 (subst (λ b. cond b (eqb l 2) true ≡ true) e h)

needed : ℕ → ℕ
needed l = cond (eqb l 1) 4 2

abbrev roomy : ℕ → Option Line → Bool
roomy l (Some line) = leb (cond (eqb l 1) 4 2) line.places
roomy l None = true

passes : Passing kind_alpha rack_12 table_12
unfolding all_below needed
passes =
    record {
      kept = refl;
      distinct = λ s z a b.
          each_stream (λ x. x.number ≡ z.number → x ≡ z)
          (each_stream (λ y. 10 ≡ y.number → stream_10 ≡ y) (λ _. refl) (λ e. absurd (omega arith)) z b)
          (each_stream (λ y. 11 ≡ y.number → stream_11 ≡ y) (λ e. absurd (omega arith)) (λ _. refl) z b)
          s a;
      q1 = first_12;
      q2 = second_12;
      need = needed;
      delays = record {
        at_probe = each_stream (λ s. FirstDelay kind_alpha rack_12 table_12 s (Some (first_12 s))) first_10 first_11;
        at_hub = each_stream (λ s. SecondDelay kind_alpha rack_12 table_12 first_12 s (Some (second_12 s))) second_10 second_11;
      };
      needs = record {
        of_probes = λ l e. subst (λ n. ProbeNeed kind_alpha rack_12 table_12 n (Some (needed n))) (sym (inbound_is l e)) need_1;
        of_hubs = λ l e. subst (λ n. HubNeed kind_alpha rack_12 table_12 first_12 n (Some (needed n))) (sym (outbound_is l e)) need_2;
      };
      in_time = each_stream (λ s. total rack_12 (first_12 s) (second_12 s) s ≤ s.deadline) (omega arith) (omega arith);
      room = λ l line e. leb-true (needed l) line.places (subst (λ o. roomy l o ≡ true) e (each_line roomy refl (λ _. refl) l));
    }

-- stream 11 at line 1
w_0 : Wait 2 (probe_higher kind_alpha rack_12 table_12 stream_11) 0 (Some 7)
unfolding wait_test
w_0 = wait_is 2 (probe_higher kind_alpha rack_12 table_12 stream_11) 0 7 refl

e_0 : Least (Queued (probe_bound kind_alpha stream_11) 0) 0
unfolding early_test
e_0 = early_is (probe_bound kind_alpha stream_11) 0 0 refl

pub worked_plan : WorkedPlan
unfolding delay_test need_test wait_test early_test clears_test least_pos_test largest_test least_eq_test
worked_plan =
    record {
      kinds = record { in_4 = refl; in_5 = refl; in_21 = refl };
      wait_0 = w_0;
      wait_1 = wait_is 2 (probe_higher kind_alpha rack_12 table_12 stream_11) 1 9 refl;
      early_0 = e_0;
      early_1 = early_is (probe_bound kind_alpha stream_11) 1 0 refl;
      first_only = λ w e x y.
          omega (
            arith,
            least_same (Starts 2 (probe_higher kind_alpha rack_12 table_12 stream_11) 0) w 7 x.1 w_0.1,
            least_same (Queued (probe_bound kind_alpha stream_11) 0) e 0 y e_0,
          );
      first_10 = first_10;
      first_11 = first_11;
      second_10 = second_10;
      second_11 = second_11;
      spreadless = delay_is 1 (delayed (probe_bound kind_alpha stream_10) (first_12 stream_10)) (hub_higher kind_alpha rack_12 table_12 first_12 stream_10) (λ _. 0) (λ _. 0) 0 0 0 refl;
      total_10 = refl;
      total_11 = refl;
      clears_1 = clears_is 2 (probe_load kind_alpha rack_12 table_12 1) 13 refl;
      need_1 = need_1;
      dumpless_clears = least_pos (probe_load kind_alpha rack_12 table_12 1) (λ u. u / 2) 10 refl;
      dumpless_need = largest (λ u. probe_load kind_alpha rack_12 table_12 1 u - ((u - 1) / 2)) 1 10 3 1 refl;
      clears_2 = clears_is 1 (hub_load kind_alpha rack_12 table_12 first_12 2) 2 refl;
      need_2 = need_2;
      rateless_need = need_is 1 rateless_load 6 5 1 refl;
      passes = passes;
      quick_delay = delay_is 1 (message_alpha quick) (message_alpha quick) (λ _. 1) (λ _. 0) 0 1 0 refl;
      closed_wait = least_eq (λ w. (1 - 1) + 0 * 1 + 1 * message_alpha quick w) 0 refl;
      closed_delay = delay_is 1 (message_alpha quick) (λ w. message_alpha quick (w - 1)) (λ _. 0) (λ _. 0) 0 0 0 refl;
    }
