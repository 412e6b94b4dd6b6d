-- How long a job waits, from what is true of a port's run.
use Rattle.std.proofs.Common.{◌≡◌, ℕ, ◌+◌, ◌-◌, ◌*◌, ◌<◌, ◌≤◌, Bool, true, ◌&&◌, ◌||◌, ltb, leb, ◌⊎◌, inl, inr, ⊎_elim, arith}
use Rattle.std.proofs.lemmas.Bool.{le-leb, lt-ltb, leb-true, ltb-true, and_from, and_parts, or_cases, or_left, or_right, cases_lt}
use Rattle.runs.specs.Count.{during, number}
use Rattle.runs.proofs.Counts.{count_has, count_find, count_more, some_or_none, last, Last}
use Rattle.runs.proofs.During.{during_in, during_out, number_le, number_or, stretches}

-- A port as one stream sees it: n jobs, those of the stream (own), and those that go first (high).
pub record View : Type 0 where
  pub jobs : ℕ
  pub end : ℕ
  pub cell : ℕ
  pub queued : ℕ → ℕ
  pub start : ℕ → ℕ
  pub own : ℕ → Bool
  pub high : ℕ → Bool

abbrev pub level : View → ℕ → Bool
level v k = v.own k || v.high k

-- a job of the level waits at t
abbrev pub Busy : View → ℕ → Type 0
Busy v t = (k : ℕ) × (k < v.jobs) × (level v k ≡ true) × (v.queued k ≤ t) × (t ≤ v.start k)

-- each job of the level that was queued before t started before t
abbrev pub Quiet : View → ℕ → Type 0
Quiet v t = (k : ℕ) → k < v.jobs → level v k ≡ true → v.queued k < t → v.start k < t

pub record Facts (v : View) (most : ℕ) (α β : ℕ → ℕ) : Type 0 where
  pub some_cell : 1 ≤ v.cell
  pub before : (k : ℕ) → k < v.jobs → level v k ≡ true → v.queued k ≤ v.start k
  pub serves : (t : ℕ) → t < v.end → Busy v t
      → (u : ℕ) × (u ≤ t) × (t < u + v.cell)
      × (Busy v u → (z : ℕ) × (z < v.jobs) × (level v z ≡ true) × (v.start z ≡ u))
  pub fifo : (x z : ℕ) → x < v.jobs → z < v.jobs → v.own x ≡ true → v.own z ≡ true → v.start z < v.end
      → v.queued x ≤ v.start z → v.start z ≤ v.start x → v.queued z ≤ v.queued x
  pub first : (x z : ℕ) → x < v.jobs → z < v.jobs → v.high x ≡ true → v.own z ≡ true → v.start z < v.end
      → v.queued x ≤ v.start z → v.start x < v.start z
  pub few : (t w : ℕ) → 1 ≤ w → w ≤ most → number v.jobs v.own v.queued t (t + w) ≤ α w
  pub few_high : (t w : ℕ) → 1 ≤ w → w ≤ most → number v.jobs v.high v.queued t (t + w) ≤ β w

-- not quiet: some job of the level was queued before t and did not start before t
abbrev pub Late : View → ℕ → Type 0
Late v t = (k : ℕ) × (k < v.jobs) × (level v k ≡ true) × (v.queued k < t) × (t ≤ v.start k)

quiet_or_late : (v : View) (t : ℕ) → Quiet v t ⊎ Late v t
quiet_or_late v t =
    ⊎_elim
    (λ s. let o = split s.0 s.2 in inr (s.0, s.1, o.0, o.1, o.2))
    (λ f. inl (λ k l lev e. ⊎_elim (λ (y : v.start k < t). y) (λ (y : t ≤ v.start k). absurd (f k l (join k lev e y)))
    (cases_lt (v.start k) t)))
    (some_or_none late v.jobs)
  where
    late : ℕ → Bool
    late k = level v k && (ltb (v.queued k) t && leb t (v.start k))

    split : (k : ℕ) → late k ≡ true → (level v k ≡ true) × (v.queued k < t) × (t ≤ v.start k)
    split k h =
        let a = and_parts (level v k) (ltb (v.queued k) t && leb t (v.start k)) h in
        let b = and_parts (ltb (v.queued k) t) (leb t (v.start k)) a.1 in
        (a.0, ltb-true _ _ b.0, leb-true _ _ b.1)

    join : (k : ℕ) → level v k ≡ true → v.queued k < t → t ≤ v.start k → late k ≡ true
    join k a b c = and_from (level v k) _ a
        (and_from (ltb (v.queued k) t) (leb t (v.start k)) (lt-ltb _ _ b) (le-leb _ _ c))

-- A job x of the stream that waits at tick `now`, before the end
module _ (v : View) (most : ℕ) (α β : ℕ → ℕ) (F : Facts v most α β) where
  -- the jobs of the level that start within a cell time, where one always waits
  served : (y : ℕ) → y + v.cell ≤ v.end → ((t : ℕ) → y ≤ t → t < y + v.cell → Busy v t)
      → 1 ≤ number v.jobs (level v) v.start y (y + v.cell)
  served y l busy =
      let c = F.some_cell in
      let at = y + v.cell - 1 in
      let s = F.serves at (omega arith) (busy at (omega arith) (omega arith)) in
      let z = s.3 (busy s.0 (omega arith) (omega arith)) in
      count_has _ v.jobs z.0 z.1
      (during_in (level v) v.start y (y + v.cell) z.0 z.2 (omega arith) (omega arith))

-- what is computed for the stream: the waits w, the least distances e, how many there are, and the delay
pub record Figures (cell most : ℕ) (α β w e : ℕ → ℕ) (K q : ℕ) : Type 0 where
  pub within : (k : ℕ) → k ≤ K → w k + 1 ≤ most
  pub fixed : (k : ℕ) → k ≤ K → (cell - 1) + k * cell + cell * β (w k + 1) ≤ w k
  pub least : (k d : ℕ) → k ≤ K → k + 1 ≤ α (d + 1) → e k ≤ d
  pub stops : α (w K + 1) ≤ K + 1
  pub worst : (k : ℕ) → k ≤ K → w k - e k ≤ q

module _ (v : View) (most : ℕ) (α β : ℕ → ℕ) (F : Facts v most α β) (w e : ℕ → ℕ) (K q : ℕ)
    (G : Figures v.cell most α β w e K q)
    (t0 now : ℕ) (quiet : Quiet v t0) (ends : now < v.end) (busy : (t : ℕ) → t0 ≤ t → t ≤ now → Busy v t) where
  -- a job of the level that starts from t0 on was queued from t0 on
  after : (k : ℕ) → k < v.jobs → level v k ≡ true → t0 ≤ v.start k → t0 ≤ v.queued k
  after k l lev s = ⊎_elim (λ (a : v.queued k < t0). absurd (omega (arith, quiet k l lev a)))
      (λ (a : t0 ≤ v.queued k). a) (cases_lt (v.queued k) t0)

  own_served : (k : ℕ) → k ≤ K → t0 + w k ≤ now → k + 1 ≤ number v.jobs v.own v.start t0 (t0 + (w k + 1))
  own_served k kK l =
      let B = β (w k + 1) in
      let m = k + 1 + B in
      let hi = t0 + (w k + 1) in
      let c = F.some_cell in
      let f = G.fixed k kK in
      let room : m * v.cell ≤ w k + 1 = omega arith in
      let n1 = stretches v.jobs (level v) v.start v.cell t0 (now + 1)
      (λ y a b. served v most α β F y (omega arith) (λ t c d. busy t (omega arith) (omega arith))) m (omega arith) in
      let n2 = number_le v.jobs (level v) (level v) v.start v.start t0 (t0 + m * v.cell) t0 hi
      (λ j jl p a b. (p, a, omega arith)) in
      let n3 = number_or v.jobs (level v) v.own v.high v.start t0 hi
      (λ j jl p. or_cases (v.own j) (v.high j) p) in
      let n4 = number_le v.jobs v.high v.high v.start v.queued t0 hi t0 hi
      (λ j jl p a b. let lev = or_right (v.own j) (v.high j) p
      in (p, after j jl lev a, omega (arith, F.before j jl lev))) in
      let n5 = F.few_high t0 (w k + 1) (omega arith) (G.within k kK) in
      omega arith

  module _ (x : ℕ) (xl : x < v.jobs) (mine : v.own x ≡ true) (t0a : t0 ≤ v.queued x) (anow : v.queued x ≤ now)
      (waits : now ≤ v.start x)
      (busy_since : (u : ℕ) → t0 < u → u ≤ v.queued x → Late v u) where
    -- the jobs of the stream that started since t0
    k : ℕ
    k = number v.jobs v.own v.start t0 now

    earlier : (j : ℕ) → j < v.jobs → v.own j ≡ true → v.start j < now → v.queued j ≤ v.queued x
    earlier j jl p l =
        ⊎_elim (λ (a : v.start j < v.queued x). omega (arith, F.before j jl (or_left (v.own j) (v.high j) p)))
        (λ (a : v.queued x ≤ v.start j). F.fifo x j xl jl mine p (omega arith) a (omega arith))
        (cases_lt (v.start j) (v.queued x))

    -- they, and x, were queued in [t0, queued x]
    ahead : k + 1 ≤ number v.jobs v.own v.queued t0 (v.queued x + 1)
    unfolding k
    ahead =
        count_more (during v.own v.start t0 now) (during v.own v.queued t0 (v.queued x + 1)) v.jobs x
        (λ j jl h. let o = during_out v.own v.start t0 now j h in
        during_in v.own v.queued t0 (v.queued x + 1) j o.0
        (after j jl (or_left (v.own j) (v.high j) o.0) o.1)
        (omega (arith, earlier j jl o.0 o.2)))
        xl (during_in v.own v.queued t0 (v.queued x + 1) x mine t0a (omega arith))
        (λ h. let o = during_out v.own v.start t0 now x h in omega arith)

    in_time : k ≤ K → now ≤ t0 + w k
    unfolding k
    in_time kK =
        ⊎_elim (λ (a : t0 + w k < now). absurd (omega (
          arith,
          own_served k kK (omega arith),
          number_le v.jobs v.own v.own v.start v.start t0 (t0 + (w k + 1)) t0 now
              (λ j jl p b c. (p, b, omega arith)),
        )))
        (λ (a : now ≤ t0 + w k). a) (cases_lt (t0 + w k) now)

    done : k ≤ K → now ≤ v.queued x + q
    done kK =
        let l = in_time kK in
        let d = v.queued x - t0 in
        let same : v.queued x + 1 ≡ t0 + (d + 1) = omega arith in
        let many = rw same at ahead in
        let few = F.few t0 (d + 1) (omega arith) (omega (arith, G.within k kK)) in
        omega (arith, G.least k d kK (omega arith), G.worst k kK)

    module _ (over : K < k) where
      hi : ℕ
      hi = t0 + (w K + 1)

      arrived : number v.jobs v.own v.queued t0 hi ≤ K + 1
      unfolding hi
      arrived = omega (arith, F.few t0 (w K + 1) (omega arith) (G.within K (omega arith)), G.stops)

      long : hi ≤ now
      unfolding hi
      long =
          ⊎_elim (λ (a : now < hi). absurd (omega (
            arith,
            ahead,
            arrived,
            number_le v.jobs v.own v.own v.queued v.queued t0 (v.queued x + 1) t0 hi
                (λ j jl p b c. (p, b, omega arith)),
          )))
          (λ (a : hi ≤ now). a) (cases_lt now hi)

      started : K + 1 ≤ number v.jobs v.own v.start t0 hi
      unfolding hi
      started = own_served K (omega arith) (omega (arith, long))

      all_started : (j : ℕ) → j < v.jobs → v.own j ≡ true → t0 ≤ v.queued j → v.queued j < hi → v.start j < hi
      all_started j jl p a b =
          ⊎_elim (λ (c : v.start j < hi). c)
          (λ (c : hi ≤ v.start j). absurd (omega (
            arith,
            started,
            arrived,
            count_more (during v.own v.start t0 hi) (during v.own v.queued t0 hi) v.jobs j
                (λ i il h. let o = during_out v.own v.start t0 hi i h in
                during_in v.own v.queued t0 hi i o.0
                (after i il (or_left (v.own i) (v.high i) o.0) o.1)
                (omega (arith, F.before i il (or_left (v.own i) (v.high i) o.0))))
                jl (during_in v.own v.queued t0 hi j p a b)
                (λ h. let o = during_out v.own v.start t0 hi j h in omega arith),
          )))
          (cases_lt (v.start j) hi)

      later : hi ≤ v.queued x
      later =
          ⊎_elim (λ (c : v.queued x < hi). absurd (omega (arith, all_started x xl mine t0a c, long)))
          (λ (c : hi ≤ v.queued x). c) (cases_lt (v.queued x) hi)

      -- the last tick before hi at which a job of the stream starts
      Starts : ℕ → Type 0
      Starts u = (z : ℕ) × (z < v.jobs) × (during v.own v.start u (u + 1) z ≡ true)

      None : ℕ → Type 0
      None u = (z : ℕ) → z < v.jobs → during v.own v.start u (u + 1) z ≡ true → ⊥

      starts_at : (z : ℕ) → z < v.jobs → v.own z ≡ true
          → during v.own v.start (v.start z) (v.start z + 1) z ≡ true
      starts_at z zl p = during_in v.own v.start (v.start z) (v.start z + 1) z p (omega arith) (omega arith)

      -- after it the level is quiet
      then_quiet : (z : ℕ) → z < v.jobs → v.own z ≡ true → t0 ≤ v.start z → v.start z < hi
          → ((j : ℕ) → j < v.jobs → v.own j ≡ true → v.start z < v.start j → v.start j < hi → ⊥)
          → Quiet v (v.start z + 1)
      then_quiet z zl p a b none j jl lev qd =
          ⊎_elim
          (λ (mj : v.own j ≡ true). ⊎_elim (λ (c : v.queued j < t0). omega (arith, quiet j jl lev c))
          (λ (c : t0 ≤ v.queued j). ⊎_elim
          (λ (d : v.start z < v.start j). absurd (none j jl mj d (all_started j jl mj c (omega arith))))
          (λ (d : v.start j ≤ v.start z). omega arith) (cases_lt (v.start z) (v.start j)))
          (cases_lt (v.queued j) t0))
          (λ (hj : v.high j ≡ true). omega (arith, F.first j z jl zl hj p (omega (arith, long)) (omega arith)))
          (or_cases (v.own j) (v.high j) lev)

      no_last : (z : ℕ) → z < v.jobs → v.own z ≡ true → t0 ≤ v.start z → v.start z < hi
          → ((j : ℕ) → j < v.jobs → v.own j ≡ true → v.start z < v.start j → v.start j < hi → ⊥) → ⊥
      no_last z zl p a b none =
          let s = busy_since (v.start z + 1) (omega arith) (omega (arith, later)) in
          omega (arith, then_quiet z zl p a b none s.0 s.1 s.2 s.3, s.4)

      impossible : ⊥
      unfolding Starts None
      impossible = go (count_find (during v.own v.start t0 hi) v.jobs (omega (arith, started)))
        where
          from_last : (g : ℕ) → g < v.jobs → v.own g ≡ true → t0 ≤ v.start g → v.start g < hi
              → Last Starts None (hi - 1) → ⊥
          from_last g gl p a b y =
              let z = y.2 in
              let o = during_out v.own v.start y.0 (y.0 + 1) z.0 z.2 in
              let low : v.start g ≤ v.start z.0 =
              ⊎_elim (λ (c : y.0 < v.start g). absurd (y.3 (v.start g) c (omega arith) g gl (starts_at g gl p)))
              (λ (c : v.start g ≤ y.0). omega arith) (cases_lt y.0 (v.start g)) in
              no_last z.0 z.1 o.0 (omega arith) (omega arith)
              (λ j jl m c d. y.3 (v.start j) (omega arith) (omega arith) j jl (starts_at j jl m))

          go : (f : ℕ) × (f < v.jobs) × (during v.own v.start t0 hi f ≡ true) → ⊥
          go f =
              let o = during_out v.own v.start t0 hi f.0 f.2 in
              from_last f.0 f.1 o.0 o.1 o.2
              (last Starts None (λ u. some_or_none (during v.own v.start u (u + 1)) v.jobs) (hi - 1)
              (v.start f.0) (omega arith)
              (f.0, f.1, starts_at f.0 f.1 o.0))

    waited : now ≤ v.queued x + q
    waited = ⊎_elim (λ (a : K < k). absurd (impossible a)) done (cases_lt K k)

-- A job of the stream that waits at a tick before the end has waited at most q ticks.
pub delay : (v : View) (most : ℕ) (α β : ℕ → ℕ) → Facts v most α β → (w e : ℕ → ℕ) (K q : ℕ)
    → Figures v.cell most α β w e K q
    → (x : ℕ) → x < v.jobs → v.own x ≡ true → (now : ℕ) → now < v.end → v.queued x ≤ now → now ≤ v.start x
    → now ≤ v.queued x + q
delay v most α β F w e K q G x xl mine now ends a b = go
    (last (Quiet v) (Late v) (quiet_or_late v) (v.queued x) 0 (omega arith) (λ k l lev c. omega arith))
  where
    go : Last (Quiet v) (Late v) (v.queued x) → now ≤ v.queued x + q
    go r =
        waited v most α β F w e K q G r.0 now r.2 ends
        (λ t c d. ⊎_elim
        (λ (f : t < v.queued x). let s = r.3 (t + 1) (omega arith) (omega arith)
        in (s.0, s.1, s.2, omega arith, omega arith))
        (λ (f : v.queued x ≤ t). (x, xl, or_left (v.own x) (v.high x) mine, f, omega arith))
        (cases_lt t (v.queued x)))
        x xl mine r.1 a b r.3
