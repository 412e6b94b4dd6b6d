-- What comes to the ports of a run, and how long a cell waits there.
use Rattle.std.proofs.Common.{◌≡◌, ℕ, ◌+◌, ◌-◌, ◌/◌, ◌<◌, ◌≤◌, Bool, true, ◌&&◌, eqb, ltb, List, Some, None, Option, refl, ap, subst, ⊎_elim, arith}
use native.Mathlib.Nat.{le-min, min-eq_left}
use Rattle.std.proofs.lemmas.Bool.{and_from, and_parts, both_ways, cases_lt, ltb-true, lt-ltb, eqb-true, eq-eqb, ne_eqb}
use Rattle.arrivals.specs.Limits.{longest}
use Rattle.arrivals.specs.Delays.{delayed}
use Rattle.figures.specs.declared.racks.Line.{Line}
use Rattle.figures.specs.declared.racks.Rack.{Rack}
use Rattle.figures.specs.declared.streams.Stream.{Stream}
use Rattle.ports.specs.Limits.{horizon}
use Rattle.ports.specs.Port.{Delay}
use Rattle.figures.specs.Racks.{numbers, line_at, cell_time, cell_time_of, sending, spread, is_inbound, is_outbound}
use Rattle.figures.specs.Tables.{◌∈◌, Distinct, over, probe_bound, hub_bound, probe_load, from_line, hub_load, Delays, Needs}
use Rattle.runs.specs.Count.{count, during, number}
use Rattle.runs.specs.Run.{Run, At, held, probe_port, hub_port, Keeps}
use Rattle.runs.specs.Promise.{OnePlaceEach}
use Rattle.runs.proofs.Counts.{some_or_none, count_le, count_none}
use Rattle.runs.proofs.During.{during_in, during_out, number_le}
use Rattle.runs.proofs.Listed.{union_bound}
use Rattle.runs.proofs.Line.{rate}
use Rattle.runs.proofs.Sound.{Sound, inbound_in}
use Rattle.runs.proofs.Waiting.{own}
use Rattle.runs.proofs.Holding.{enough_places}
use Rattle.runs.proofs.Streams.{of_streams, delay_at}

delayed_is : (f : ℕ → ℕ) (j w : ℕ) → 1 ≤ w → w + j ≤ longest → delayed f j w ≡ f (w + j)
delayed_is f j w a b = rw (ne_eqb w 0 (λ e. omega arith), min-eq_left b)

-- a delay is no longer than the longest wait
pub delay_small : (C : ℕ) (α β : ℕ → ℕ) (q : ℕ) → Delay C α β q → q ≤ horizon
delay_small C α β q D = omega (arith, D.worst.met, (D.waits D.worst.at D.worst.to).0)

module _ {K : Type 0} (α : K → ℕ → ℕ) (rack : Rack) (table : List (Stream K)) (all : OnePlaceEach rack)
    (T : Sound rack table) (distinct : Distinct table) (q1 q2 : Stream K → ℕ) (need : ℕ → ℕ)
    (D : Delays α rack table q1 q2) (N : Needs α rack table q1 need) (r : Run K) (R : Keeps α rack table r) where
  -- the cells of the stream s
  came : Stream K → ℕ → Bool
  came s k = eqb (r.cell k).stream.number s.number && ltb (r.cell k).queued r.end

  at_probe : (l k : ℕ) → At (probe_port rack r l) k
      → ((r.cell k).stream ∈ table) × (eqb (r.cell k).stream.inbound l ≡ true)
  at_probe l k a = (R.known k a.0, (and_parts (eqb (r.cell k).stream.inbound l) _ a.1).0)

  at_hub : (l k : ℕ) → At (hub_port rack r l) k
      → ((r.cell k).stream ∈ table) × (eqb (r.cell k).stream.outbound l ≡ true)
  at_hub l k a = (R.known k a.0, (and_parts (eqb (r.cell k).stream.outbound l) _ a.1).0)

  -- no cell starts before it is queued, be it within the run or after
  probe_order : (l k : ℕ) → At (probe_port rack r l) k → (r.cell k).queued ≤ (r.cell k).sent
  probe_order l k a =
      let c = ltb-true _ _ (and_parts (eqb (r.cell k).stream.inbound l) (ltb (r.cell k).queued r.end) a.1).1
      in
      ⊎_elim (λ (e : (r.cell k).sent < r.end). R.sent_after k a.0 e)
      (λ (e : r.end ≤ (r.cell k).sent). omega arith)
      (cases_lt (r.cell k).sent r.end)

  hub_order : (l k : ℕ) → At (hub_port rack r l) k → (r.cell k).moved ≤ (r.cell k).left
  hub_order l k a =
      let c = ltb-true _ _ (and_parts (eqb (r.cell k).stream.outbound l) (ltb (r.cell k).moved r.end) a.1).1
      in
      ⊎_elim (λ (e : (r.cell k).left < r.end). R.left_after k a.0 e)
      (λ (e : r.end ≤ (r.cell k).left). omega arith)
      (cases_lt (r.cell k).left r.end)

  probe_few : (l : ℕ) (s : Stream K) → s ∈ table → (t w : ℕ) → 1 ≤ w → w ≤ longest
      → number r.cells (own (probe_port rack r l) s) (λ k. (r.cell k).queued) t (t + w) ≤ probe_bound α s w
  unfolding came
  probe_few l s m t w a b =
      omega (
        arith,
        R.bounded s m t w a b,
        number_le r.cells (own (probe_port rack r l) s) (came s) (λ k. (r.cell k).queued) (λ k. (r.cell k).queued) t
            (t + w) t (t + w)
            (λ k _ h c d.
            let o = and_parts (eqb (r.cell k).stream.inbound l && ltb (r.cell k).queued r.end)
            (eqb (r.cell k).stream.number s.number) h in
            (and_from _ _ o.1 (and_parts (eqb (r.cell k).stream.inbound l) _ o.0).1, c, d)),
      )

  -- a cell waits at its probe port no longer than its stream's delay there
  pub probe_wait : (k : ℕ) → k < r.cells → (r.cell k).queued < r.end → (now : ℕ) → now < r.end
      → (r.cell k).queued ≤ now
      → now ≤ (r.cell k).sent → now ≤ (r.cell k).queued + q1 (r.cell k).stream
  probe_wait k l c =
      let s = (r.cell k).stream in
      let m = R.known k l in
      let i = s.inbound in
      delay_at table T.falling distinct (probe_port rack r i) (λ z. eqb z.inbound i) (at_probe i) (probe_bound α)
      longest (probe_few i)
      (R.at_probes i (T.from_probe s m)) (T.some_cell i) (probe_order i) (omega arith) s m (q1 s) (D.at_probe s m) k
      l
      (and_from _ _ (and_from _ _ (eq-eqb _ _ refl) (lt-ltb _ _ c)) (eq-eqb _ _ refl))

  -- when a cell of the stream s that comes to its hub port was queued
  was_queued : (k : ℕ) → k < r.cells → (r.cell k).moved < r.end → (s : Stream K) → (r.cell k).stream ≡ s
      → ((r.cell k).moved ≤ (r.cell k).queued + (sending rack s.inbound + rack.hub.most + q1 s))
      × ((r.cell k).queued + (sending rack s.inbound + rack.hub.least) ≤ (r.cell k).moved)
      × ((r.cell k).queued < r.end)
  was_queued k l e s same =
      let b = R.moved_after k l e in
      let in_run : (r.cell k).sent < r.end = omega arith in
      let a = R.sent_after k l in_run in
      let c = R.moved_by k l in_run in
      let d = probe_wait k l (omega arith) (r.cell k).sent in_run a (omega arith) in
      let x = ap (λ (z : Stream K). sending rack z.inbound) same in
      let y = ap q1 same in
      (omega arith, omega arith, omega arith)

  hub_few : (l : ℕ) (s : Stream K) → s ∈ table → (t w : ℕ) → 1 ≤ w → w ≤ horizon + 1
      → number r.cells (own (hub_port rack r l) s) (λ k. (r.cell k).moved) t (t + w) ≤ hub_bound α rack q1 s w
  unfolding came
  hub_few l s m t w a b =
      let hub = T.hub in
      let near = T.near in
      let small = delay_small _ _ _ (q1 s) (D.at_probe s m) in
      let j = q1 s + spread rack in
      let from = t - (sending rack s.inbound + rack.hub.most + q1 s) in
      rw (delayed_is (α s.kind) j w a (omega arith))
      (omega (
        arith,
        R.bounded s m from (w + j) (omega arith) (omega arith),
        number_le r.cells (own (hub_port rack r l) s) (came s) (λ k. (r.cell k).moved) (λ k. (r.cell k).queued) t
            (t + w) from (from + (w + j))
            (λ k kl h c d.
            let o = and_parts (eqb (r.cell k).stream.outbound l && ltb (r.cell k).moved r.end)
            (eqb (r.cell k).stream.number s.number) h in
            let e = ltb-true _ _ (and_parts (eqb (r.cell k).stream.outbound l) (ltb (r.cell k).moved r.end)
            o.0).1 in
            let q = was_queued k kl e s (distinct (r.cell k).stream s (R.known k kl) m (eqb-true _ _ o.1)) in
            (and_from _ _ o.1 (lt-ltb _ _ q.2), omega arith, omega arith)),
      ))

  -- a cell waits at its hub port no longer than its stream's delay there
  pub hub_wait : (k : ℕ) → k < r.cells → (r.cell k).moved < r.end → (now : ℕ) → now < r.end → (r.cell k).moved ≤ now
      → now ≤ (r.cell k).left → now ≤ (r.cell k).moved + q2 (r.cell k).stream
  hub_wait k l c =
      let s = (r.cell k).stream in
      let m = R.known k l in
      let o = s.outbound in
      delay_at table T.falling distinct (hub_port rack r o) (λ z. eqb z.outbound o) (at_hub o)
      (hub_bound α rack q1) (horizon + 1) (hub_few o)
      (R.at_hubs o (T.to_host s m)) (T.some_cell o) (hub_order o) (omega arith) s m (q2 s) (D.at_hub s m) k l
      (and_from _ _ (and_from _ _ (eq-eqb _ _ refl) (lt-ltb _ _ c)) (eq-eqb _ _ refl))

  pub probe_held : (l t : ℕ) → is_inbound (line_at rack l) ≡ true → t < r.end → held (probe_port rack r l) t ≤ need l
  probe_held l t side =
      enough_places (probe_port rack r l) (R.at_probes l side) (T.some_cell l) (probe_order l)
      (probe_load α rack table l) (need l) (N.of_probes l side)
      (λ t w a b. of_streams table T.falling distinct (probe_port rack r l) (λ z. eqb z.inbound l) (at_probe l)
      (probe_bound α) longest (probe_few l)
      (probe_port rack r l).here (λ z. eqb z.inbound l) (λ k kl h. (h, (at_probe l k (kl, h)).1)) t w a
      (omega arith))
      t

  -- the cells that come to the hub port of the line l from the line i
  comes_by : ℕ → ℕ → ℕ → Bool
  comes_by l i k = (hub_port rack r l).here k && eqb (r.cell k).stream.inbound i

  by_parts : (l i k : ℕ) → comes_by l i k ≡ true
      → ((r.cell k).stream.outbound ≡ l) × ((r.cell k).moved < r.end) × ((r.cell k).stream.inbound ≡ i)
      × ((hub_port rack r l).here k ≡ true)
  unfolding comes_by
  by_parts l i k h =
      let a = and_parts ((hub_port rack r l).here k) (eqb (r.cell k).stream.inbound i) h in
      let b = and_parts (eqb (r.cell k).stream.outbound l) (ltb (r.cell k).moved r.end) a.0 in
      (eqb-true _ _ b.0, ltb-true _ _ b.1, eqb-true _ _ a.1, a.0)

  -- such a cell comes by an in-bound line
  by_inbound : (l i k : ℕ) → k < r.cells → comes_by l i k ≡ true → is_inbound (line_at rack i) ≡ true
  by_inbound l i k kl h = subst (λ n. is_inbound (line_at rack n) ≡ true) (by_parts l i k h).2
      (T.from_probe (r.cell k).stream (R.known k kl))

  none_come : (l i : ℕ) → ((k : ℕ) → k < r.cells → comes_by l i k ≡ true → ⊥) → (t u : ℕ)
      → number r.cells (comes_by l i) (λ k. (r.cell k).moved) t (t + u) ≡ 0
  none_come l i no' t u =
      count_none (during (comes_by l i) (λ k. (r.cell k).moved) t (t + u)) r.cells
      (λ k kl h. no' k kl (during_out (comes_by l i) (λ k. (r.cell k).moved) t (t + u) k h).0)

  -- the line i brings no more than it can start
  hub_rate : (l i t u : ℕ) → 1 ≤ u
      → number r.cells (comes_by l i) (λ k. (r.cell k).moved) t (t + u) ≤ (u - 1 + spread rack) / cell_time rack
      i + 1
  hub_rate l i t u a =
      ⊎_elim (λ s. some (by_inbound l i s.0 s.1 s.2)) (λ f. omega (arith, none_come l i f t u))
      (some_or_none (comes_by l i) r.cells)
    where
      starts : ℕ → Bool
      starts k = (probe_port rack r i).here k && ltb (r.cell k).sent r.end

      some : is_inbound (line_at rack i) ≡ true
          → number r.cells (comes_by l i) (λ k. (r.cell k).moved) t (t + u) ≤ (u - 1 + spread rack) / cell_time rack
          i + 1
      some side =
          let hub = T.hub in
          let C = cell_time rack i in
          let from = t - (sending rack i + rack.hub.most) in
          let L = u + spread rack in
          let same : L - 1 ≡ u - 1 + spread rack = omega arith in
          let most = rate r.cells starts (λ k. (r.cell k).sent) C (T.some_cell i)
          (λ k z kl zl h g.
          let x = and_parts ((probe_port rack r i).here k) (ltb (r.cell k).sent r.end) h in
          let y = and_parts ((probe_port rack r i).here z) (ltb (r.cell z).sent r.end) g in
          (R.at_probes i side).alone k z (kl, x.0) (zl, y.0) (ltb-true _ _ x.1) (ltb-true _ _ y.1))
          from L (omega arith) in
          omega (
            arith,
            rw same at most,
            number_le r.cells (comes_by l i) starts (λ k. (r.cell k).moved) (λ k. (r.cell k).sent) t (t + u) from
                (from + L)
                (λ k kl h c d.
                let o = by_parts l i k h in
                let y = R.moved_after k kl o.1 in
                let in_run : (r.cell k).sent < r.end = omega arith in
                let x = R.sent_after k kl in_run in
                let z = R.moved_by k kl in_run in
                let e = ap (sending rack) o.2 in (
                  and_from _ _ (and_from _ _ (eq-eqb _ _ o.2) (lt-ltb _ _ (omega arith))) (lt-ltb _ _ in_run),
                  omega
                      arith,
                  omega arith,
                )),
          )

  hub_all : (l t u : ℕ) → 1 ≤ u → u ≤ horizon
      → number r.cells (hub_port rack r l).here (λ k. (r.cell k).moved) t (t + u) ≤ hub_load α rack table q1 l u
  unfolding comes_by
  hub_all l t u a b =
      union_bound (λ i. from_line α rack table q1 l u (line_at rack i) i) (λ i. i) numbers
      (during (hub_port rack r l).here (λ k. (r.cell k).moved) t (t + u)) (λ k. (r.cell k).stream.inbound) r.cells
      (λ k kl h. (
        (r.cell k).stream.inbound,
        inbound_in rack all (r.cell k).stream.inbound
            (T.from_probe (r.cell k).stream (R.known k kl)),
        refl,
      ))
      (λ i _. by_line i (line_at rack i) refl)
    where
      fewer : (i : ℕ) → count
          (λ k. during (hub_port rack r l).here (λ k. (r.cell k).moved) t (t + u) k && eqb (r.cell k).stream.inbound
          i) r.cells
          ≤ number r.cells (comes_by l i) (λ k. (r.cell k).moved) t (t + u)
      fewer i =
          count_le (λ k. during (hub_port rack r l).here (λ k. (r.cell k).moved) t (t + u) k && eqb
          (r.cell k).stream.inbound i)
          (during (comes_by l i) (λ k. (r.cell k).moved) t (t + u)) r.cells
          (λ k kl h.
          let x = and_parts (during (hub_port rack r l).here (λ k. (r.cell k).moved) t (t + u) k)
          (eqb (r.cell k).stream.inbound i) h in
          let o = during_out (hub_port rack r l).here (λ k. (r.cell k).moved) t (t + u) k x.0 in
          during_in (comes_by l i) (λ k. (r.cell k).moved) t (t + u) k
          (and_from ((hub_port rack r l).here k) (eqb (r.cell k).stream.inbound i) o.0 x.1) o.1 o.2)

      streams : (i : ℕ) → number r.cells (comes_by l i) (λ k. (r.cell k).moved) t (t + u)
          ≤ over (λ z. eqb z.inbound i && eqb z.outbound l) (λ z. hub_bound α rack q1 z u) table
      streams i =
          of_streams table T.falling distinct (hub_port rack r l) (λ z. eqb z.outbound l) (at_hub l)
          (hub_bound α rack q1) (horizon + 1) (hub_few l)
          (comes_by l i) (λ z. eqb z.inbound i && eqb z.outbound l)
          (λ k kl h. let o = by_parts l i k h in (o.3, and_from _ _ (eq-eqb _ _ o.2) (eq-eqb _ _ o.0))) t u a
          (omega arith)

      by_line : (i : ℕ) (line : Option Line) → line_at rack i ≡ line
          → count (λ k. during (hub_port rack r l).here (λ k. (r.cell k).moved) t (t + u) k && eqb
          (r.cell k).stream.inbound i) r.cells
          ≤ from_line α rack table q1 l u line i
      by_line i (Some line) e =
          let time : cell_time rack i ≡ line.cell_time = ap cell_time_of e in
          let most = hub_rate l i t u a in
          le-min (omega (arith, fewer i, rw time at most)) (omega (arith, fewer i, streams i))
      by_line i None e = omega (
        arith,
        fewer i,
        none_come l i (λ k kl h. both_ways (is_inbound None) refl (rw e at (by_inbound l i k kl h)))
            t u,
      )

  pub hub_held : (l t : ℕ) → is_outbound (line_at rack l) ≡ true → t < r.end → held (hub_port rack r l) t ≤ need l
  hub_held l t side =
      enough_places (hub_port rack r l) (R.at_hubs l side) (T.some_cell l) (hub_order l) (hub_load α rack table q1 l)
      (need l) (N.of_hubs l side)
      (hub_all l) t
