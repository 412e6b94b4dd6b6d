-- How many cells a port holds.
use Rattle.std.proofs.Common.{◌≡◌, ℕ, ◌+◌, ◌-◌, ◌*◌, ◌/◌, ◌<◌, ◌≤◌, Bool, true, ◌&&◌, ltb, leb, ◌⊎◌, length, inl, inr, ⊎_elim, arith}
use Rattle.std.proofs.lemmas.Bool.{and_from, and_parts, cases_lt, leb-true, ltb-true, lt-ltb}
use Rattle.runs.specs.Count.{during, number}
use Rattle.ports.specs.Limits.{horizon}
use Rattle.ports.specs.Port.{Need}
use Rattle.runs.specs.Run.{Port, At, other, Serves, held}
use Rattle.runs.proofs.Counts.{some_or_none, count_none, count_and, count_more, count_has, last, Last}
use Rattle.runs.proofs.During.{during_in, during_out, number_le, stretches}
use Rattle.runs.proofs.Line.{on_the_line}

abbrev Holds : {K : Type 0} → Port K → ℕ → ℕ → Type 0
Holds p t k = At p k × (p.queued k ≤ t) × (t < p.start k + p.cell)

abbrev holds : {K : Type 0} → Port K → ℕ → ℕ → Bool
holds p t k = p.here k && (leb (p.queued k) t && ltb t (p.start k + p.cell))

holds_out : {K : Type 0} (p : Port K) (t k : ℕ) → k < p.cells → holds p t k ≡ true → Holds p t k
holds_out p t k l h =
    let a = and_parts (p.here k) (leb (p.queued k) t && ltb t (p.start k + p.cell)) h in
    let b = and_parts (leb (p.queued k) t) (ltb t (p.start k + p.cell)) a.1 in
    ((l, a.0), leb-true _ _ b.0, ltb-true _ _ b.1)

-- each cell that was queued before t is gone at t
abbrev Clear : {K : Type 0} → Port K → ℕ → Type 0
Clear p t = (k : ℕ) → At p k → p.queued k < t → p.start k + p.cell ≤ t

abbrev Left : {K : Type 0} → Port K → ℕ → Type 0
Left p t = (k : ℕ) × At p k × (p.queued k < t) × (t < p.start k + p.cell)

clear_or_left : {K : Type 0} (p : Port K) (t : ℕ) → Clear p t ⊎ Left p t
clear_or_left p t =
    ⊎_elim
    (λ s. let k = s.0 in
    let a = and_parts (p.here k) (ltb (p.queued k) t && ltb t (p.start k + p.cell)) s.2 in
    let b = and_parts (ltb (p.queued k) t) (ltb t (p.start k + p.cell)) a.1 in
    inr (k, (s.1, a.0), ltb-true _ _ b.0, ltb-true _ _ b.1))
    (λ f. inl (λ k l c. ⊎_elim
    (λ (y : t < p.start k + p.cell). absurd
    (f k l.0 (and_from _ _ l.1 (and_from _ _ (lt-ltb _ _ c) (lt-ltb _ _ y))))) (λ y. y)
    (cases_lt t (p.start k + p.cell))))
    (some_or_none (λ k. p.here k && (ltb (p.queued k) t && ltb t (p.start k + p.cell))) p.cells)

module _ {K : Type 0} (p : Port K) (S : Serves p) (c : 1 ≤ p.cell) (comes_first : (k : ℕ) → At p k
    → p.queued k ≤ p.start k) where
  -- no unreserved cell starts where a cell holds a place
  no_other : (d k : ℕ) → d < length p.unreserved → other p d < p.end → Holds p (other p d) k → ⊥
  no_other d k dl e h =
      ⊎_elim (λ (a : p.start k < other p d). ⊎_elim (λ (b : p.start k + p.cell ≤ other p d). omega arith)
      (λ (b : other p d + p.cell ≤ p.start k). omega arith) (S.apart k d h.0 dl (omega arith) e))
      (λ (a : other p d ≤ p.start k). S.others_last d k dl e (h.0, h.1, a)) (cases_lt (p.start k) (other p d))

  -- a cell starts within a cell time, where one always holds a place
  some_start : (y : ℕ) → y + p.cell ≤ p.end → ((t : ℕ) → y ≤ t → t < y + p.cell → (k : ℕ) × Holds p t k)
      → 1 ≤ number p.cells p.here p.start y (y + p.cell)
  some_start y e busy =
      let b = busy (y + p.cell - 1) (omega arith) (omega arith) in
      ⊎_elim (λ (a : p.start b.0 < y + p.cell). found b.0 b.1.0 (omega arith) a)
      (λ (a : y + p.cell ≤ p.start b.0).
      ⊎_elim (λ z. found z.0 z.1 (omega arith) (omega arith))
      (λ d. let h = busy (other p d.0) (omega arith) (omega arith) in absurd
      (no_other d.0 h.0 d.1 (omega arith) h.1))
      (on_the_line p S c (y + p.cell - 1) b.0 (omega arith) (b.1.0, b.1.1, omega arith)))
      (cases_lt (p.start b.0) (y + p.cell))
    where
      found : (k : ℕ) → At p k → y ≤ p.start k → p.start k < y + p.cell
          → 1 ≤ number p.cells p.here p.start y (y + p.cell)
      found k l a b = count_has _ p.cells k l.0 (during_in p.here p.start y (y + p.cell) k l.1 a b)

  module _ (G : ℕ → ℕ) (n : ℕ) (N : Need p.cell G n) (few : (t w : ℕ) → 1 ≤ w → w ≤ horizon
      → number p.cells p.here p.queued t (t + w) ≤ G w)
      (t t0 : ℕ) (e : t < p.end) (l0 : t0 ≤ t) (clear : Clear p t0) (left : (u : ℕ) → t0 < u → u ≤ t → Left p u)
      (x : ℕ) (hx : Holds p t x) where
    -- some cell holds a place throughout
    busy : (u : ℕ) → t0 ≤ u → u ≤ t → (k : ℕ) × Holds p u k
    busy u a b =
        ⊎_elim (λ (d : u < t). let s = left (u + 1) (omega arith) (omega arith)
        in (s.0, (s.1, omega arith, omega arith)))
        (λ (d : t ≤ u). (x, (hx.0, omega arith, omega arith))) (cases_lt u t)

    -- in `span` ticks from t0 on a cell starts once in a cell time
    starts : (span : ℕ) → t0 + span ≤ t + 1 → span / p.cell ≤ number p.cells p.here p.start t0 (t0 + span)
    starts span l =
        let m = span / p.cell in
        let room : m * p.cell ≤ span = omega arith in
        omega (
          arith,
          stretches p.cells p.here p.start p.cell t0 (t + 1)
              (λ y a b. some_start y (omega arith) (λ u v w. busy u (omega arith) (omega arith))) m (omega arith),
          number_le p.cells p.here p.here p.start p.start t0 (t0 + m * p.cell) t0 (t0 + span)
              (λ k _ h a b. (h, a, omega arith)),
        )

    -- what is sent from t0 on was queued from t0 on
    since : (k : ℕ) → At p k → t0 < p.start k + p.cell → t0 ≤ p.queued k
    since k l s = ⊎_elim (λ (a : p.queued k < t0). absurd (omega (arith, clear k l a))) (λ (a : t0 ≤ p.queued k). a)
        (cases_lt (p.queued k) t0)

    -- what starts in the first `span` ticks was queued in the first u
    came_in : (span u j : ℕ) → span ≤ u → j < p.cells → during p.here p.start t0 (t0 + span) j ≡ true
        → during p.here p.queued t0 (t0 + u) j ≡ true
    came_in span u j s jl h =
        let o = during_out p.here p.start t0 (t0 + span) j h in
        let b = comes_first j (jl, o.0) in
        during_in p.here p.queued t0 (t0 + u) j o.0 (since j (jl, o.0) (omega arith)) (omega arith)

    short : t < t0 + N.until
    short = ⊎_elim (λ (a : t < t0 + N.until). a) (λ (a : t0 + N.until ≤ t). absurd (long a))
        (cases_lt t (t0 + N.until))
      where
        long : t0 + N.until ≤ t → ⊥
        long a =
            let U = N.until in
            let one = N.clears.1.has.0 in
            let span = U + 1 - p.cell in
            let s = left (t0 + U) (omega arith) a in
            omega (
              arith,
              starts span (omega arith),
              few t0 U one N.clears.0,
              N.clears.1.has.1,
              count_more (during p.here p.start t0 (t0 + span)) (during p.here p.queued t0 (t0 + U))
                  p.cells s.0
                  (λ j jl h. came_in span U j (omega arith) jl h)
                  s.1.0 (during_in p.here p.queued t0 (t0 + U) s.0 s.1.1
                  (since s.0 s.1 (omega arith)) (omega arith))
                  (λ h. let o = during_out p.here p.start t0 (t0 + span) s.0 h in omega arith),
            )

    enough : held p t ≤ n
    enough =
        let sh = short in
        let u = t + 1 - t0 in
        let span = u - p.cell in
        omega (
          arith,
          starts span (omega arith),
          few t0 u (omega arith) (omega (arith, N.clears.0)),
          N.worst.bounds u (omega arith) (omega arith),
          count_and (holds p t) (during p.here p.start t0 (t0 + span)) (during p.here p.queued t0 (t0 + u))
              p.cells
              (λ k l h. let o = holds_out p t k l h in during_in p.here p.queued t0 (t0 + u) k o.0.1
              (since k o.0 (omega arith)) (omega arith))
              (λ k l h. came_in span u k (omega arith) l h)
              (λ k l h h'. let o = holds_out p t k l h in let i = during_out p.here p.start t0 (t0 + span) k h'
              in omega arith),
        )

  -- A port holds no more cells than its need.
  pub enough_places : (G : ℕ → ℕ) (n : ℕ) → Need p.cell G n
      → ((t w : ℕ) → 1 ≤ w → w ≤ horizon → number p.cells p.here p.queued t (t + w) ≤ G w)
      → (t : ℕ) → t < p.end → held p t ≤ n
  enough_places G n N few t e =
      ⊎_elim (λ x. go (last (Clear p) (Left p) (clear_or_left p) t 0 (omega arith) (λ k l d. absurd (omega arith)))
      x.0 (holds_out p t x.0 x.1 x.2))
      (λ f. omega (arith, count_none (holds p t) p.cells f)) (some_or_none (holds p t) p.cells)
    where
      go : Last (Clear p) (Left p) t → (x : ℕ) → Holds p t x → held p t ≤ n
      go y x hx = enough G n N few t y.0 e y.1 y.2 y.3 x hx
