-- Each figure is one number.
use Rattle.std.proofs.Common.{◌≡◌, ℕ, ◌+◌, ◌-◌, ◌/◌, ◌<◌, ◌≤◌, min, Bool, true, ◌&&◌, eqb, ltb, ◌⊎◌, List, Some, None, Option, refl, ap, inl, inr, ⊎_elim, arith}
use Rattle.std.proofs.lemmas.Bool.{cases_lt}
use Rattle.arrivals.specs.Least.{Least, Found, Largest}
use Rattle.arrivals.specs.Delays.{delayed}
use Rattle.figures.specs.declared.racks.Line.{Line}
use Rattle.figures.specs.declared.racks.Rack.{Rack}
use Rattle.figures.specs.declared.streams.Stream.{Stream}
use Rattle.ports.specs.Limits.{horizon}
use Rattle.ports.specs.Port.{Starts, Wait, Queued, Delay, NoDelay, PortDelay, Clears, holding, PortNeed}
use Rattle.figures.specs.Racks.{numbers, line_at, cell_time, spread, is_inbound, is_outbound}
use Rattle.figures.specs.Tables.{◌∈◌, over, hub_bound, hub_higher, from_line, hub_load, Delays, Needs}
use Rattle.figures.specs.Unique.{PortsUnique, TablesUnique}
use Rattle.figures.proofs.Transport.{delay_same, need_same, sums_same, over_same}

-- a search has one answer, whatever it looks for
pub least_same : (P : ℕ → Type 0) (a b : ℕ) → Least P a → Least P b → a ≡ b
least_same P a b x y = omega (arith, x.first b y.has, y.first a x.has)

pub found_same : (P : ℕ → Type 0) (high : ℕ) (r r' : Option ℕ) → Found P high r → Found P high r' → r ≡ r'
found_same P high None None x y = refl
found_same P high None (Some b) x y = absurd (x b y.0 y.1.has)
found_same P high (Some a) None x y = absurd (y a x.0 x.1.has)
found_same P high (Some a) (Some b) x y = ap Some (least_same P a b x.1 y.1)

pub largest_same : (f : ℕ → ℕ) (low high a b : ℕ) → Largest f low high a → Largest f low high b → a ≡ b
largest_same f low high a b x y =
    omega (arith, x.bounds y.at y.from y.to, x.met, y.bounds x.at x.from x.to, y.met)

module _ (C : ℕ) (α β : ℕ → ℕ) where
  wait_same : (k w w' : ℕ) → Wait C β k (Some w) → Wait C β k (Some w') → w ≡ w'
  wait_same k w w' x y = least_same (Starts C β k) w w' x.1 y.1

  module _ (q q' : ℕ) (D : Delay C α β q) (E : Delay C α β q') where
    waits_same : (k : ℕ) → k ≤ D.last → k ≤ E.last → D.wait k ≡ E.wait k
    waits_same k a b = wait_same k (D.wait k) (E.wait k) (D.waits k a) (E.waits k b)

    last_le : D.last ≤ E.last
    last_le =
        ⊎_elim
        (λ (a : E.last < D.last). D.stops.first E.last (rw (waits_same E.last (omega arith) (omega arith)) E.stops.has))
        (λ (a : D.last ≤ E.last). a)
        (cases_lt E.last D.last)

    delay_le : D.last ≤ E.last → q ≤ q'
    delay_le l =
        let k = D.worst.at in
        let d : k ≤ D.last = D.worst.to in
        let e : k ≤ E.last = omega arith in
        let w = waits_same k d e in
        let c = least_same (Queued α k) (D.early k) (E.early k) (D.comes k d) (E.comes k e) in
        omega (arith, D.worst.met, E.worst.bounds k D.worst.from e)

  -- a delay, and a cell that has no wait
  not_both : (q : ℕ) → Delay C α β q → NoDelay C α β → ⊥
  not_both q D N =
      ⊎_elim
      (λ (a : D.last < N.cell).
      let w = wait_same D.last (D.wait D.last) (N.wait D.last) (D.waits D.last (omega arith)) (N.waits D.last a) in
      let e = ap (λ n. α (n + 1)) w in
      omega (arith, D.stops.has, N.goes_on D.last a))
      (λ (a : N.cell ≤ D.last). let x = D.waits N.cell a in N.endless (D.wait N.cell) x.0 x.1.has)
      (cases_lt D.last N.cell)

  pub port_delay_same : (r r' : Option ℕ) → PortDelay C α β r → PortDelay C α β r' → r ≡ r'
  port_delay_same None None x y = refl
  port_delay_same None (Some b) x y = absurd (not_both b y x)
  port_delay_same (Some a) None x y = absurd (not_both a x y)
  port_delay_same (Some a) (Some b) x y =
      let l : a ≤ b = delay_le a b x y (last_le a b x y) in
      let g : b ≤ a = delay_le b a y x (last_le b a y x) in
      ap Some (omega arith)

module _ (C : ℕ) (G : ℕ → ℕ) where
  pub port_need_same : (r r' : Option ℕ) → PortNeed C G r → PortNeed C G r' → r ≡ r'
  port_need_same None None x y = refl
  port_need_same None (Some b) x y = absurd (x y.until y.clears.0 y.clears.1.has)
  port_need_same (Some a) None x y = absurd (y x.until x.clears.0 x.clears.1.has)
  port_need_same (Some a) (Some b) x y =
      let u = least_same (Clears C G) x.until y.until x.clears.1 y.clears.1 in
      let z : Largest (holding C G) 1 y.until a = rw u at x.worst in
      ap Some (largest_same (holding C G) 1 y.until a b z y.worst)

pub ports_unique : PortsUnique
ports_unique =
    record {
      one_wait = λ C β k r r'. found_same (Starts C β k) horizon r r';
      one_early = λ α k e e'. least_same (Queued α k) e e';
      one_delay = λ C α β r r'. port_delay_same C α β r r';
      one_clearing = λ C G r r'. found_same (Clears C G) horizon r r';
      one_need = λ C G r r'. port_need_same C G r r';
    }

some_same : (a b : ℕ) → ◌≡◌ {A = Option ℕ} (Some a) (Some b) → a ≡ b
some_same a b e = cc

module _ {K : Type 0} (α : K → ℕ → ℕ) (rack : Rack) (table : List (Stream K)) where
  -- the bounds at the hub, where the delays at the probe ports agree on the table
  module _ (q1 q1' : Stream K → ℕ) (same : (s : Stream K) → s ∈ table → q1 s ≡ q1' s) where
    pub hub_bound_same : (s : Stream K) → s ∈ table → (w : ℕ) → hub_bound α rack q1 s w ≡ hub_bound α rack q1' s w
    hub_bound_same s m w = ap (λ q. delayed (α s.kind) (q + spread rack) w) (same s m)

    hub_over_same : (p : Stream K → Bool) (w : ℕ) → over p (λ z. hub_bound α rack q1 z w) table ≡ over p (λ z. hub_bound α rack q1' z w) table
    hub_over_same p w = over_same p (λ z. hub_bound α rack q1 z w) (λ z. hub_bound α rack q1' z w) table (λ z m. hub_bound_same z m w)

    pub hub_higher_same : (s : Stream K) (w : ℕ) → hub_higher α rack table q1 s w ≡ hub_higher α rack table q1' s w
    hub_higher_same s w = hub_over_same (λ z. eqb z.outbound s.outbound && ltb s.priority z.priority) w

    from_line_same : (l u : ℕ) (o : Option Line) (i : ℕ) → from_line α rack table q1 l u o i ≡ from_line α rack table q1' l u o i
    from_line_same l u None i = refl
    from_line_same l u (Some line) i =
        ap (λ n. min ((u - 1 + spread rack) / line.cell_time + 1) n) (hub_over_same (λ z. eqb z.inbound i && eqb z.outbound l) u)

    pub hub_load_same : (l u : ℕ) → hub_load α rack table q1 l u ≡ hub_load α rack table q1' l u
    hub_load_same l u =
        sums_same (λ i. from_line α rack table q1 l u (line_at rack i) i) (λ i. from_line α rack table q1' l u (line_at rack i) i) numbers
        (λ i _. from_line_same l u (line_at rack i) i)

  module _ (q1 q2 q1' q2' : Stream K → ℕ) (D : Delays α rack table q1 q2) (E : Delays α rack table q1' q2') where
    first_same : (s : Stream K) → s ∈ table → q1 s ≡ q1' s
    first_same s m = some_same (q1 s) (q1' s) (port_delay_same _ _ _ (Some (q1 s)) (Some (q1' s)) (D.at_probe s m) (E.at_probe s m))

    second_same : (s : Stream K) → s ∈ table → q2 s ≡ q2' s
    second_same s m =
        let d = delay_same (cell_time rack s.outbound) (Some (q2 s)) (hub_bound_same q1 q1' first_same s m) (hub_higher_same q1 q1' first_same s) (D.at_hub s m) in
        some_same (q2 s) (q2' s) (port_delay_same _ _ _ (Some (q2 s)) (Some (q2' s)) d (E.at_hub s m))

    needs_same : (need need' : ℕ → ℕ) → Needs α rack table q1 need → Needs α rack table q1' need'
        → (l : ℕ) → (is_inbound (line_at rack l) ≡ true) ⊎ (is_outbound (line_at rack l) ≡ true) → need l ≡ need' l
    needs_same need need' N M l (inl i) =
        some_same (need l) (need' l) (port_need_same _ _ (Some (need l)) (Some (need' l)) (N.of_probes l i) (M.of_probes l i))
    needs_same need need' N M l (inr o) =
        let n = need_same (cell_time rack l) (Some (need l)) (hub_load_same q1 q1' first_same l) (N.of_hubs l o) in
        some_same (need l) (need' l) (port_need_same _ _ (Some (need l)) (Some (need' l)) n (M.of_hubs l o))

pub tables_unique : (K : Type 0) → TablesUnique K
tables_unique K =
    record {
      same_delays = λ α rack table q1 q2 q1' q2' D E s m. (
        first_same α rack table q1 q2 q1' q2' D E s m,
        second_same α rack table q1 q2 q1' q2' D E s m,
      );
      same_needs = λ α rack table q1 q2 q1' q2' need need' D E. needs_same α rack table q1 q2 q1' q2' D E need need';
    }
