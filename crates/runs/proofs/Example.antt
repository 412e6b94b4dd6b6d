-- A run that keeps the rules and reaches every figure.
use Rattle.std.proofs.Common.{◌≡◌, ℕ, zero, suc, ◌+◌, ◌-◌, ◌/◌, ◌<◌, ◌≤◌, min, true, false, cond, ◌&&◌, eqb, ltb, length, get_or, replicate, Some, None, Option, sym, refl, ap, subst, inl, inr, ⊎_elim, arith}
use native.Mathlib.Nat.{min-le_right, le-min}
use Rattle.std.proofs.lemmas.Bool.{both_ways, ne_eqb}
use Rattle.arrivals.specs.declared.messages.Message.{Message}
use Rattle.arrivals.specs.Delays.{delayed}
use Rattle.arrivals.specs.Limits.{longest}
use Rattle.arrivals.specs.Messages.{message_alpha}
use Rattle.arrivals.specs.MessageLaws as message
use Rattle.figures.specs.declared.racks.Line.{Line}
use Rattle.figures.specs.declared.racks.Side.TheVariants.{Inbound, Outbound}
use Rattle.figures.specs.declared.streams.Stream.{Stream}
use Rattle.ports.specs.Port.{Delay, Need}
use Rattle.ports.specs.Loads.{Lawful}
use Rattle.figures.specs.Racks.{numbers, line_at, places_of, is_inbound, is_outbound}
use Rattle.figures.specs.Tables.{◌∈◌, FirstDelay, SecondDelay, ProbeNeed, HubNeed, probe_load, from_line, hub_load, total, Passing}
use Rattle.runs.specs.Count.{count, during}
use Rattle.runs.specs.Run.{Port, At, other, Serves, probe_port, hub_port, brought, Keeps}
use Rattle.runs.specs.Example.{line, rack, stream, table, run, Reached}
use Rattle.runs.proofs.Line.{count_one}
use Rattle.runs.proofs.Listed.{sums_le, sums_has}
use Rattle.figures.specs.GroupSums.{seen_some}
use Rattle.runs.proofs.Withdrawn.{delayed_le}

-- a port with one cell, which comes while the one unreserved cell is sent
single : {K : Type 0} (p : Port K) → p.cells ≡ 1 → length p.unreserved ≡ 1 → other p 0 + p.cell ≡ p.start 0
    → other p 0 < p.queued 0 → Serves p
single p one only meets late =
    record {
      alone = λ k z a b _ _. inl (omega arith);
      apart = λ k d a b _ _. inr (rw (first k a, zeroth d b) (omega arith));
      dumps_apart = λ d e a b _ _. inl (omega arith);
      works = λ t k e w free. (
        k,
        w.0,
        (let z = first k w.0 in let s = ap p.start z in let q = ap p.queued z in omega
            (arith, free.of_others 0 (omega arith))),
      );
      highest = λ z k a _ w. let f = ap (λ n. (p.stream n).priority) (first z a) in let g = ap
          (λ n. (p.stream n).priority) (first k w.0) in omega arith;
      oldest = λ z k a _ w _. let f = ap p.queued (first z a) in let g = ap p.queued (first k w.0) in omega
          arith;
      others_last = λ d k l _ w. let f = ap (other p) (zeroth d l) in let g = ap p.queued (first k w.0) in omega
          arith;
    }
  where
    first : (k : ℕ) → At p k → k ≡ 0
    first k a = omega arith

    zeroth : (d : ℕ) → d < length p.unreserved → d ≡ 0
    zeroth d l = omega arith

nones : (k n : ℕ) → get_or {A = Option Line} (replicate k None) n None ≡ None
nones zero n = refl
nones (suc k) zero = refl
nones (suc k) (suc n) = nones k n

missing : (n : ℕ) → line_at rack (suc (suc (suc n))) ≡ None
missing n =
    let less : suc (suc (suc n)) - 1 ≡ suc (suc n) = omega arith in
    rw (ne_eqb (suc (suc (suc n))) 0 (λ e. omega arith), less) (nones 14 n)

-- what holds of the two lines, and of a missing one, holds of each
two_lines : (P : ℕ → Option Line → Type 0) → P 1 (Some (line Inbound)) → P 2 (Some (line Outbound))
    → ((l : ℕ) → P l None)
    → (l : ℕ) → P l (line_at rack l)
two_lines P a b c zero = c 0
two_lines P a b c (suc zero) = a
two_lines P a b c (suc (suc zero)) = b
two_lines P a b c (suc (suc (suc n))) = subst (P (suc (suc (suc n)))) (sym (missing n)) (c (suc (suc (suc n))))

no_line : {A : Type 0} → false ≡ true → A
no_line h = absurd (both_ways false refl h)

inbound_is : (P : ℕ → Type 0) → P 1 → (l : ℕ) → is_inbound (line_at rack l) ≡ true → P l
inbound_is P h = two_lines (λ l o. is_inbound o ≡ true → P l) (λ _. h) no_line (λ l. no_line)

outbound_is : (P : ℕ → Type 0) → P 2 → (l : ℕ) → is_outbound (line_at rack l) ≡ true → P l
outbound_is P h = two_lines (λ l o. is_outbound o ≡ true → P l) no_line (λ _. h) (λ l. no_line)

-- what holds of the one stream holds of each
only : (P : Stream Message → Type 0) → P stream → (s : Stream Message) → s ∈ table → P s
only P h s m = ⊎_elim (λ e. subst P (sym e) h) (λ no'. absurd no') m

-- messages keep the laws of a kind
pub lawful : Lawful message_alpha
lawful =
    record {
      none = λ kind. refl;
      some = message.some;
      rises = λ kind v w l _. message.rises kind v w l;
      small = message.small;
    }

abbrev bound : ℕ → ℕ
bound = message_alpha stream.kind

some_come : (w : ℕ) → 1 ≤ w → 1 ≤ bound w
some_come w l = omega (arith, message.some stream.kind, message.rises stream.kind 1 w l)

keeps : Keeps message_alpha rack table run
keeps =
    record {
      known = λ k l. inl refl;
      bounded = only (λ s. (t w : ℕ) → 1 ≤ w → w ≤ longest → brought run s t w ≤ message_alpha s.kind w) few;
      sent_after = λ k l _. omega arith;
      moved_after = λ k l _. omega arith;
      moved_by = λ k l _. omega arith;
      left_after = λ k l _. omega arith;
      at_probes = inbound_is (λ l. Serves (probe_port rack run l))
          (single (probe_port rack run 1) refl refl refl (omega arith));
      at_hubs = outbound_is (λ l. Serves (hub_port rack run l))
          (single (hub_port rack run 2) refl refl refl (omega arith));
    }
  where
    few : (t w : ℕ) → 1 ≤ w → w ≤ longest → brought run stream t w ≤ bound w
    few t w a b =
        omega (
          arith,
          some_come w a,
          count_one (during (λ k. eqb 7 7 && ltb 1 100) (λ k. 1) t (t + w)) 1
              (λ k z c d _ _. omega arith),
        )

-- one cell, and nothing goes first
alone_delay : (f : ℕ → ℕ) → 1 ≤ f 1 → f 3 ≤ 1 → Delay 3 f (λ _. 0) 2
alone_delay f some few =
    record {
      wait = λ _. 2;
      early = λ _. 0;
      last = 0;
      waits = λ k l. (omega arith, record { has = omega arith; first = λ m e. omega arith });
      comes = λ k l. record { has = let z : k ≡ 0 = omega arith in omega arith; first = λ m _. omega arith };
      stops = record { has = few; first = λ m _. omega arith };
      worst = record { bounds = λ k a b. omega arith; at = 0; from = omega arith; to = omega arith; met = refl };
    }

one_need : (G : ℕ → ℕ) → ((u : ℕ) → 1 ≤ u → 1 ≤ G u) → ((u : ℕ) → u ≤ 5 → G u ≤ 1) → Need 3 G 1
one_need G some few =
    record {
      until = 5;
      clears = (
        omega arith,
        record
            { has = (omega arith, few 5 (omega arith)); first = λ m h. omega (arith, some m h.0, h.1) },
      );
      worst = record {
        bounds = λ u a b. omega (arith, few u b);
        at = 1;
        from = omega arith;
        to = omega arith;
        met = omega (arith, some 1 (omega arith), few 1 (omega arith));
      };
    }

-- what comes to the hub port: one cell at least, and one at most in the first ticks
hub_some : (u : ℕ) → 1 ≤ u → 1 ≤ hub_load message_alpha rack table (λ _. 2) 2 u
hub_some u l =
    let one : 1 ≤ (u - 1 + 3) / 3 + 1 = omega arith in
    let two : 1 ≤ 0 + delayed bound 5 u = omega (
      arith,
      seen_some message_alpha lawful (Some 5) stream.kind,
      delayed_le message_alpha lawful stream.kind 5 5 1 u
          (omega arith) l,
    ) in
    let first : 1 ≤ min ((u - 1 + 3) / 3 + 1) (0 + delayed bound 5 u) = le-min one two in
    omega (
      arith,
      first,
      sums_has (λ i. from_line message_alpha rack table (λ _. 2) 2 u (line_at rack i) i) numbers 1
          (inl refl),
    )

hub_few : (u : ℕ) → u ≤ 5 → hub_load message_alpha rack table (λ _. 2) 2 u ≤ 1
hub_few u l =
    sums_le (λ i. from_line message_alpha rack table (λ _. 2) 2 u (line_at rack i) i) (λ i. cond (eqb i 1) 1 0) numbers
    (λ i _. two_lines (λ i o. from_line message_alpha rack table (λ _. 2) 2 u o i ≤ cond (eqb i 1) 1 0)
    (let a = min-le_right ((u - 1 + 3) / 3 + 1) (0 + delayed bound 5 u) in
    omega (arith, delayed_le message_alpha lawful stream.kind 5 5 u 5 (omega arith) l))
    (min-le_right ((u - 1 + 3) / 3 + 1) 0) (λ i. omega arith) i)

passing : Passing message_alpha rack table
passing =
    record {
      kept = refl;
      distinct = λ s z a b _. only (λ x. x ≡ z) (only (λ y. stream ≡ y) refl z b) s a;
      q1 = λ _. 2;
      q2 = λ _. 2;
      need = λ _. 1;
      delays = record {
        at_probe = only (λ s. FirstDelay message_alpha rack table s (Some 2))
            (alone_delay bound (omega arith) (omega arith));
        at_hub = only (λ s. SecondDelay message_alpha rack table (λ _. 2) s (Some 2))
            (alone_delay (delayed bound 5) (omega arith) (omega arith));
      };
      needs = record {
        of_probes = inbound_is (λ l. ProbeNeed message_alpha rack table l (Some 1))
            (one_need (probe_load message_alpha rack table 1) (λ u l. omega (arith, some_come u l))
            (λ u l. omega (arith, message.rises stream.kind u 5 l)));
        of_hubs = outbound_is (λ l. HubNeed message_alpha rack table (λ _. 2) l (Some 1))
            (one_need (hub_load message_alpha rack table (λ _. 2) 2) hub_some hub_few);
      };
      in_time = only (λ s. total rack 2 2 s ≤ s.deadline) (omega arith);
      room = λ l line. two_lines (λ l o. o ≡ Some line → 1 ≤ line.places)
          (λ e. omega (arith, ap places_of e)) (λ e. omega (arith, ap places_of e))
          (λ l e. let z : ◌≡◌ {A = ℕ} 0 1 = cc in omega arith) l;
    }

pub reached : Reached
unfolding count passing
reached =
    record {
      places = refl;
      lawful = lawful;
      passes = passing;
      keeps = keeps;
      arrives = omega arith;
      first_wait = refl;
      second_wait = refl;
      whole_way = refl;
      probe_full = refl;
      hub_full = refl;
    }
