-- Searches and figures at given numbers: each follows from one test, which antt computes.
use Rattle.std.proofs.Common.{◌≡◌, ℕ, zero, suc, ◌+◌, ◌-◌, ◌/◌, ◌<◌, ◌≤◌, Bool, true, not, ◌&&◌, eqb, leb, Some, ⊎_elim, arith}
use Rattle.std.proofs.lemmas.Bool.{and_parts, and_from, both_ways, not-true, cases_lt, cases_eq, eqb-true, eq-eqb, leb-true, le-leb}
use Rattle.arrivals.specs.Least.{Least, Found, Largest}
use Rattle.ports.specs.Limits.{horizon}
use Rattle.ports.specs.Port.{ahead, Wait, Queued, Delay, Clears, holding, Need}

-- p passes at each number below n
unfoldable pub all_below : (ℕ → Bool) → ℕ → Bool
all_below p zero = true
all_below p (suc n) = p n && all_below p n

pub at_each : (p : ℕ → Bool) (n k : ℕ) → k < n → all_below p n ≡ true → p k ≡ true
unfolding all_below
at_each p zero k l h = absurd (omega arith)
at_each p (suc n) k l h =
    let a = and_parts (p n) (all_below p n) h in
    ⊎_elim (λ (e : k ≡ n). rw e a.0) (λ (e : k ≡ n → ⊥). at_each p n k (omega arith) a.1) (cases_eq k n)

-- each number with P passes p, n has P, and none below n passes
pub least_by : (P : ℕ → Type 0) (p : ℕ → Bool) (n : ℕ) → ((m : ℕ) → P m → p m ≡ true) → P n → all_below (λ m. not (p m)) n ≡ true → Least P n
least_by P p n told h none =
    record {
      has = h;
      first = λ m x.
          ⊎_elim (λ (l : m < n). absurd (both_ways (p m) (not-true (p m) (at_each (λ m. not (p m)) n m l none)) (told m x)))
          (λ (l : n ≤ m). l) (cases_lt m n);
    }

-- the least n with n ≡ f n
unfoldable pub least_eq_test : (ℕ → ℕ) → ℕ → Bool
unfolding all_below
least_eq_test f n = eqb n (f n) && all_below (λ m. not (eqb m (f m))) n

pub least_eq : (f : ℕ → ℕ) (n : ℕ) → least_eq_test f n ≡ true → Least (λ m. m ≡ f m) n
unfolding least_eq_test
least_eq f n h =
    let a = and_parts (eqb n (f n)) (all_below (λ m. not (eqb m (f m))) n) h in
    least_by (λ m. m ≡ f m) (λ m. eqb m (f m)) n (λ m. eq-eqb m (f m)) (eqb-true n (f n) a.0) a.1

-- the least n with f n ≤ g n
unfoldable pub least_le_test : (ℕ → ℕ) → (ℕ → ℕ) → ℕ → Bool
unfolding all_below
least_le_test f g n = leb (f n) (g n) && all_below (λ m. not (leb (f m) (g m))) n

pub least_le : (f g : ℕ → ℕ) (n : ℕ) → least_le_test f g n ≡ true → Least (λ m. f m ≤ g m) n
unfolding least_le_test
least_le f g n h =
    let a = and_parts (leb (f n) (g n)) (all_below (λ m. not (leb (f m) (g m))) n) h in
    least_by (λ m. f m ≤ g m) (λ m. leb (f m) (g m)) n (λ m. le-leb (f m) (g m)) (leb-true (f n) (g n) a.0) a.1

-- the least n from 1 on with f n ≤ g n
unfoldable pub least_pos_test : (ℕ → ℕ) → (ℕ → ℕ) → ℕ → Bool
unfolding all_below
least_pos_test f g n = (leb 1 n && leb (f n) (g n)) && all_below (λ m. not (leb 1 m && leb (f m) (g m))) n

pub least_pos : (f g : ℕ → ℕ) (n : ℕ) → least_pos_test f g n ≡ true → Least (λ m. (1 ≤ m) × (f m ≤ g m)) n
unfolding least_pos_test
least_pos f g n h =
    let a = and_parts (leb 1 n && leb (f n) (g n)) (all_below (λ m. not (leb 1 m && leb (f m) (g m))) n) h in
    let b = and_parts (leb 1 n) (leb (f n) (g n)) a.0 in
    least_by (λ m. (1 ≤ m) × (f m ≤ g m)) (λ m. leb 1 m && leb (f m) (g m)) n
    (λ m x. and_from (leb 1 m) (leb (f m) (g m)) (le-leb 1 m x.0) (le-leb (f m) (g m) x.1))
    (leb-true 1 n b.0, leb-true (f n) (g n) b.1) a.1

-- n is the largest, and it is met at i
unfoldable pub largest_test : (ℕ → ℕ) → ℕ → ℕ → ℕ → ℕ → Bool
unfolding all_below
largest_test f low high n i = (leb low i && leb i high) && (eqb (f i) n && all_below (λ k. leb (f k) n) (suc high))

pub largest : (f : ℕ → ℕ) (low high n i : ℕ) → largest_test f low high n i ≡ true → Largest f low high n
unfolding largest_test
largest f low high n i h =
    let a = and_parts (leb low i && leb i high) (eqb (f i) n && all_below (λ k. leb (f k) n) (suc high)) h in
    let b = and_parts (leb low i) (leb i high) a.0 in
    let c = and_parts (eqb (f i) n) (all_below (λ k. leb (f k) n) (suc high)) a.1 in
    record {
      bounds = λ k _ l. leb-true (f k) n (at_each (λ k. leb (f k) n) (suc high) k (omega arith) c.1);
      at = i;
      from = leb-true low i b.0;
      to = leb-true i high b.1;
      met = eqb-true (f i) n c.0;
    }

-- the wait w of the cell k
unfoldable pub wait_test : ℕ → (ℕ → ℕ) → ℕ → ℕ → Bool
unfolding least_eq_test
wait_test C β k w = leb w horizon && least_eq_test (ahead C β k) w

pub wait_is : (C : ℕ) (β : ℕ → ℕ) (k w : ℕ) → wait_test C β k w ≡ true → Wait C β k (Some w)
unfolding wait_test
wait_is C β k w h =
    let a = and_parts (leb w horizon) (least_eq_test (ahead C β k) w) h in
    (leb-true w horizon a.0, least_eq (ahead C β k) w a.1)

-- the earliest tick e of the cell k
unfoldable pub early_test : (ℕ → ℕ) → ℕ → ℕ → Bool
unfolding least_le_test
early_test α k e = least_le_test (λ _. k + 1) (λ d. α (d + 1)) e

pub early_is : (α : ℕ → ℕ) (k e : ℕ) → early_test α k e ≡ true → Least (Queued α k) e
unfolding early_test
early_is α k e h = least_le (λ _. k + 1) (λ d. α (d + 1)) e h

-- the delay q, met by the cell i: w and e have the waits and the earliest ticks of the cells up to the last
module _ (C : ℕ) (α β : ℕ → ℕ) (w e : ℕ → ℕ) (last q i : ℕ) where
  unfoldable pub delay_test : Bool
  unfolding all_below wait_test early_test least_le_test largest_test
  delay_test =
      (all_below (λ k. wait_test C β k (w k)) (suc last) && all_below (λ k. early_test α k (e k)) (suc last))
      && (least_le_test (λ k. α (w k + 1)) (λ k. k + 1) last && largest_test (λ k. w k - e k) 0 last q i)

  pub delay_is : delay_test ≡ true → Delay C α β q
  unfolding delay_test
  delay_is h =
      let a = and_parts (all_below (λ k. wait_test C β k (w k)) (suc last) && all_below (λ k. early_test α k (e k)) (suc last)) (least_le_test (λ k. α (w k + 1)) (λ k. k + 1) last && largest_test (λ k. w k - e k) 0 last q i) h in
      let b = and_parts (all_below (λ k. wait_test C β k (w k)) (suc last)) (all_below (λ k. early_test α k (e k)) (suc last)) a.0 in
      let c = and_parts (least_le_test (λ k. α (w k + 1)) (λ k. k + 1) last) (largest_test (λ k. w k - e k) 0 last q i) a.1 in
      record {
        wait = w;
        early = e;
        last = last;
        waits = λ k l. wait_is C β k (w k) (at_each (λ k. wait_test C β k (w k)) (suc last) k (omega arith) b.0);
        comes = λ k l. early_is α k (e k) (at_each (λ k. early_test α k (e k)) (suc last) k (omega arith) b.1);
        stops = least_le (λ k. α (w k + 1)) (λ k. k + 1) last c.0;
        worst = largest (λ k. w k - e k) 0 last q i c.1;
      }

-- the tick u that clears the port
unfoldable pub clears_test : ℕ → (ℕ → ℕ) → ℕ → Bool
unfolding least_pos_test
clears_test C G u = leb u horizon && least_pos_test G (λ v. (v + 1 - C) / C) u

pub clears_is : (C : ℕ) (G : ℕ → ℕ) (u : ℕ) → clears_test C G u ≡ true → Found (Clears C G) horizon (Some u)
unfolding clears_test
clears_is C G u h =
    let a = and_parts (leb u horizon) (least_pos_test G (λ v. (v + 1 - C) / C) u) h in
    (leb-true u horizon a.0, least_pos G (λ v. (v + 1 - C) / C) u a.1)

-- the need n, met at the tick i, where u clears the port
unfoldable pub need_test : ℕ → (ℕ → ℕ) → ℕ → ℕ → ℕ → Bool
unfolding clears_test largest_test
need_test C G u n i = clears_test C G u && largest_test (holding C G) 1 u n i

pub need_is : (C : ℕ) (G : ℕ → ℕ) (u n i : ℕ) → need_test C G u n i ≡ true → Need C G n
unfolding need_test
need_is C G u n i h =
    let a = and_parts (clears_test C G u) (largest_test (holding C G) 1 u n i) h in
    record { until = u; clears = clears_is C G u a.0; worst = largest (holding C G) 1 u n i a.1 }
