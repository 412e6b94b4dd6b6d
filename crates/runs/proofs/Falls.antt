-- Where less comes, the figures of a port are there, and fall.
use Rattle.std.proofs.Common.{◌≡◌, ℕ, zero, suc, ◌+◌, ◌-◌, ◌*◌, ◌/◌, ◌<◌, ◌≤◌, ◌⊎◌, inl, inr, ⊎_elim, mul-le-mul_left, arith}
use Rattle.std.proofs.lemmas.Bool.{cases_lt}
use Rattle.arrivals.specs.Least.{Least, Largest}
use Rattle.arrivals.specs.Limits.{longest}
use Rattle.ports.specs.Port.{ahead, Starts, Queued, Delay, Clears, holding, Need}
use Rattle.runs.proofs.Searches.{least, largest, choose}

-- a test of two numbers, either way
pub le_or_not : (a b : ℕ) → (a ≤ b) ⊎ (a ≤ b → ⊥)
le_or_not a b = ⊎_elim (λ (l : b < a). inr (λ m. omega arith)) inl (cases_lt b a)

times : (c a b : ℕ) → a ≤ b → c * a ≤ c * b
times c a b l = mul-le-mul_left c l

-- A rising f that is not above x at x has a least fixed point, up to x.
pub fixed : (f : ℕ → ℕ) (x : ℕ) → ((u w : ℕ) → u ≤ w → w ≤ x → f u ≤ f w) → f x ≤ x
    → (y : ℕ) × Least (λ w. w ≡ f w) y × (y ≤ x)
fixed f x rise h = go (least (λ w. f w ≤ w) (λ w. le_or_not (f w) w) x h)
  where
    go : (y : ℕ) × Least (λ w. f w ≤ w) y × (y ≤ x) → (y : ℕ) × Least (λ w. w ≡ f w) y × (y ≤ x)
    go s =
        let y = s.0 in
        let below : f y ≤ y = s.1.has in
        let above : y ≤ f y = s.1.first (f y) (rise (f y) y below s.2) in
        (y, record { has = omega arith; first = λ m e. s.1.first m (omega arith) }, s.2)

module _ (C : ℕ) (α β α' β' : ℕ → ℕ) (q : ℕ) (D : Delay C α β q) (le_α : (w : ℕ) → α' w ≤ α w) (le_β : (w : ℕ)
    → β' w ≤ β w)
    (rise_α : (u w : ℕ) → u ≤ w → w ≤ longest → α' u ≤ α' w) (rise_β : (u w : ℕ) → u ≤ w → w ≤ longest → β' u ≤ β' w)
    (some : 1 ≤ α' 1) where
  abbrev Waited : ℕ → ℕ → Type 0
  Waited k w = Least (Starts C β' k) w × (w ≤ D.wait k)

  waits : (k : ℕ) → k ≤ D.last → (w : ℕ) × Waited k w
  waits k l =
      let inside = (D.waits k l).0 in
      let s = fixed (ahead C β' k) (D.wait k)
      (λ u w a b. omega (arith, times C (β' (u + 1)) (β' (w + 1)) (rise_β (u + 1) (w + 1) (omega arith) (omega arith))))
      (omega (arith, (D.waits k l).1.has, times C (β' (D.wait k + 1)) (β (D.wait k + 1)) (le_β (D.wait k + 1)))) in
      (s.0, (s.1, s.2))

  module _ (w : ℕ → ℕ) (is : (k : ℕ) → k ≤ D.last → Waited k (w k)) where
    abbrev Stops : ℕ → Type 0
    Stops k = α' (w k + 1) ≤ k + 1

    stops : (K : ℕ) × Least Stops K × (K ≤ D.last)
    stops =
        least Stops (λ k. le_or_not (α' (w k + 1)) (k + 1)) D.last
        (let s = is D.last (omega arith) in
        let i = (D.waits D.last (omega arith)).0 in
        omega (
          arith,
          D.stops.has,
          rise_α (w D.last + 1) (D.wait D.last + 1) (omega arith) (omega arith),
          le_α (D.wait D.last + 1),
        ))

    module _ (K : ℕ) (S : Least Stops K) (l : K ≤ D.last) where
      some_early : (k : ℕ) → k ≤ K → (d : ℕ) × Queued α' k d
      some_early zero a = (0, some)
      some_early (suc j) a = (
        w j,
        ⊎_elim (λ (b : α' (w j + 1) ≤ j + 1). absurd (omega (arith, S.first j b))) (λ b. late b)
            (le_or_not (α' (w j + 1)) (j + 1)),
      )
        where
          late : (α' (w j + 1) ≤ j + 1 → ⊥) → suc j + 1 ≤ α' (w j + 1)
          late b = ⊎_elim (λ (c : j + 1 < α' (w j + 1)). omega arith) (λ (c : α' (w j + 1) ≤ j + 1). absurd (b c))
              (cases_lt (j + 1) (α' (w j + 1)))

      earlies : (k : ℕ) → k ≤ K → (d : ℕ) × Least (Queued α' k) d
      earlies k a =
          let s = some_early k a in
          let m = least (Queued α' k) (λ d. le_or_not (k + 1) (α' (d + 1))) s.0 s.1 in
          (m.0, m.1)

      made : (e : ℕ → ℕ) → ((k : ℕ) → k ≤ K → Least (Queued α' k) (e k)) → (q' : ℕ) × Delay C α' β' q' × (q' ≤ q)
      made e early = go (largest (λ k. w k - e k) 0 K (omega arith))
        where
          go : (q' : ℕ) × Largest (λ k. w k - e k) 0 K q' → (q' : ℕ) × Delay C α' β' q' × (q' ≤ q)
          go s = (
            s.0,
            record {
              wait = w;
              early = e;
              last = K;
              waits = λ k a. (omega (arith, (is k (omega arith)).1, (D.waits k (omega arith)).0), (is k (omega arith)).0);
              comes = early;
              stops = S;
              worst = s.1;
            },
            (let k = s.1.at in
                let kK : k ≤ K = s.1.to in
                let kL : k ≤ D.last = omega arith in
                omega (
                  arith,
                  s.1.met,
                  (is k kL).1,
                  D.worst.bounds k (omega arith) kL,
                  (D.comes k kL).first (e k) (omega (arith, (early k kK).has, le_α (e k + 1))),
                )),
          )

  pub delay_falls : (q' : ℕ) × Delay C α' β' q' × (q' ≤ q)
  delay_falls =
      let c = choose D.last Waited waits in
      let s = stops c.0 c.1 in
      let d = choose s.0 (λ k d. Least (Queued α' k) d) (earlies c.0 c.1 s.0 s.1 s.2) in
      made c.0 c.1 s.0 s.1 s.2 d.0 d.1

module _ (C : ℕ) (G G' : ℕ → ℕ) (n : ℕ) (N : Need C G n) (le : (u : ℕ) → G' u ≤ G u) where
  clears_or_not : (u : ℕ) → Clears C G' u ⊎ (Clears C G' u → ⊥)
  clears_or_not u =
      ⊎_elim (λ a. ⊎_elim (λ b. inl (a, b)) (λ no'. inr (λ h. no' h.1)) (le_or_not (G' u) ((u + 1 - C) / C)))
      (λ no'. inr (λ h. no' h.0)) (le_or_not 1 u)

  pub need_falls : (n' : ℕ) × Need C G' n' × (n' ≤ n)
  need_falls =
      let c = N.clears.1.has in
      let s = least (Clears C G') clears_or_not N.until (c.0, omega (arith, c.1, le N.until)) in
      let m = largest (holding C G') 1 s.0 s.1.has.0 in (
        m.0,
        record {
          until = s.0;
          clears = (omega (arith, N.clears.0), s.1);
          worst = m.1;
        },
        (let u = m.1.at in
            omega (arith, m.1.met, le u, N.worst.bounds u m.1.from (omega (arith, m.1.to)))),
      )
