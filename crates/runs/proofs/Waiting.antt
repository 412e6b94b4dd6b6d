-- How long a cell waits at a port.
use Rattle.std.proofs.Common.{◌≡◌, ℕ, ◌+◌, ◌<◌, ◌≤◌, Bool, true, ◌&&◌, eqb, ltb, sym, refl, ◌∙◌, ⊎_elim, arith}
use Rattle.std.proofs.lemmas.Bool.{and_from, and_parts, or_cases, or_left, or_right, cases_lt, ltb-true, lt-ltb, eqb-true, eq-eqb}
use Rattle.runs.specs.Count.{number}
use Rattle.figures.specs.declared.streams.Stream.{Stream}
use Rattle.ports.specs.Limits.{horizon}
use Rattle.ports.specs.Port as spec
use Rattle.runs.specs.Run.{Port, At, other, Serves}
use Rattle.runs.proofs.Line.{on_the_line}
use Rattle.runs.proofs.Delay.{View, Facts, level, Busy, delay}

-- the cells of the stream s, and those that go before it
abbrev pub own : {K : Type 0} → Port K → Stream K → ℕ → Bool
own p s k = p.here k && eqb (p.stream k).number s.number

abbrev pub high : {K : Type 0} → Port K → Stream K → ℕ → Bool
high p s k = p.here k && ltb s.priority (p.stream k).priority

abbrev view : {K : Type 0} → Port K → Stream K → View
view p s =
    record {
      jobs = p.cells;
      end = p.end;
      cell = p.cell;
      queued = p.queued;
      start = p.start;
      own = own p s;
      high = high p s;
    }

module _ {K : Type 0} (p : Port K) (S : Serves p) (some_cell : 1 ≤ p.cell) (comes_first : (k : ℕ) → At p k
    → p.queued k ≤ p.start k)
    (s : Stream K) (ranked : (k : ℕ) → At p k → (p.stream k).priority ≡ s.priority → (p.stream k).number ≡ s.number)
    (same : (k : ℕ) → At p k → (p.stream k).number ≡ s.number → (p.stream k).priority ≡ s.priority) where
  at : (k : ℕ) → k < p.cells → level (view p s) k ≡ true → At p k
  at k l h = (
    l,
    ⊎_elim (λ a. (and_parts (p.here k) _ a).0) (λ a. (and_parts (p.here k) _ a).0)
        (or_cases (own p s k) (high p s k) h),
  )

  -- a cell of the level has at least the stream's priority
  least_priority : (k : ℕ) → k < p.cells → level (view p s) k ≡ true → s.priority ≤ (p.stream k).priority
  least_priority k l h =
      ⊎_elim (λ a. let c = and_parts (p.here k) (eqb (p.stream k).number s.number) a in omega
      (arith, same k (l, c.0) (eqb-true _ _ c.1)))
      (λ a. omega (arith, ltb-true s.priority (p.stream k).priority (and_parts (p.here k) _ a).1))
      (or_cases (own p s k) (high p s k) h)

  -- and what has it is of the level
  of_level : (k : ℕ) → At p k → s.priority ≤ (p.stream k).priority → level (view p s) k ≡ true
  of_level k l o =
      ⊎_elim (λ (a : s.priority < (p.stream k).priority). or_right (own p s k) (high p s k)
      (and_from _ _ l.1 (lt-ltb _ _ a)))
      (λ (a : (p.stream k).priority ≤ s.priority). or_left (own p s k) (high p s k)
      (and_from _ _ l.1 (eq-eqb _ _ (ranked k l (omega arith)))))
      (cases_lt s.priority (p.stream k).priority)

  starts_level : (z : ℕ) → At p z → p.start z < p.end → Busy (view p s) (p.start z) → level (view p s) z ≡ true
  starts_level z l e b =
      of_level z l (omega (
        arith,
        least_priority b.0 b.1 b.2,
        S.highest z b.0 l e
            (at b.0 b.1 b.2, b.3, b.4),
      ))

  -- what is on the line at t started at some u; where the level waits at u, it is of the level
  serves : (t : ℕ) → t < p.end → Busy (view p s) t
      → (u : ℕ) × (u ≤ t) × (t < u + p.cell)
      × (Busy (view p s) u → (z : ℕ) × (z < p.cells) × (level (view p s) z ≡ true) × (p.start z ≡ u))
  serves t e busy =
      ⊎_elim
      (λ z. (p.start z.0, z.2.0, z.2.1, λ b. (z.0, z.1.0, starts_level z.0 z.1 (omega arith) b, refl)))
      (λ d. (
        other p d.0,
        d.2.0,
        d.2.1,
        λ b. absurd
            (S.others_last d.0 b.0 d.1 (omega arith) (at b.0 b.1 b.2, b.3, b.4)),
      ))
      (on_the_line p S some_cell t busy.0 e (at busy.0 busy.1 busy.2, busy.3, busy.4))

  is_own : (k : ℕ) → own p s k ≡ true → (p.here k ≡ true) × ((p.stream k).number ≡ s.number)
  is_own k h = let a = and_parts (p.here k) (eqb (p.stream k).number s.number) h in (a.0, eqb-true _ _ a.1)

  first : (x z : ℕ) → x < p.cells → z < p.cells → high p s x ≡ true → own p s z ≡ true → p.start z < p.end
      → p.queued x ≤ p.start z → p.start x < p.start z
  first x z xl zl hx mz e o =
      let a = and_parts (p.here x) (ltb s.priority (p.stream x).priority) hx in
      let m = is_own z mz in
      ⊎_elim (λ (b : p.start x < p.start z). b)
      (λ (b : p.start z ≤ p.start x).
      absurd (omega (
        arith,
        S.highest z x (zl, m.0) e ((xl, a.0), o, b),
        same z (zl, m.0) m.1,
        ltb-true
            s.priority (p.stream x).priority a.1,
      )))
      (cases_lt (p.start x) (p.start z))

  module _ (most : ℕ) (α β : ℕ → ℕ) (few : (t w : ℕ) → 1 ≤ w → w ≤ most
      → number p.cells (own p s) p.queued t (t + w) ≤ α w)
      (few_high : (t w : ℕ) → 1 ≤ w → w ≤ most → number p.cells (high p s) p.queued t (t + w) ≤ β w) where
    facts : Facts (view p s) most α β
    facts =
        record {
          some_cell = some_cell;
          before = λ k l lev. comes_first k (at k l lev);
          serves = serves;
          fifo = λ x z xl zl mx mz e o a. S.oldest z x (zl, (is_own z mz).0) e ((xl, (is_own x mx).0), o, a)
              ((is_own z mz).1 ∙ sym (is_own x mx).1);
          first = first;
          few = few;
          few_high = few_high;
        }

    -- A cell of the stream that waits at a tick before the end has waited at most q ticks.
    pub waited : (q : ℕ) → horizon + 1 ≤ most → spec.Delay p.cell α β q
        → (x : ℕ) → x < p.cells → own p s x ≡ true → (now : ℕ) → now < p.end → p.queued x ≤ now → now ≤ p.start x
        → now ≤ p.queued x + q
    waited q l D =
        delay (view p s) most α β facts D.wait D.early D.last q
        (record {
          within = λ j a. omega (arith, (D.waits j a).0);
          fixed = λ j a. omega (arith, (D.waits j a).1.has);
          least = λ j d a h. (D.comes j a).first d h;
          stops = D.stops.has;
          worst = λ j a. D.worst.bounds j (omega arith) a;
        })
