-- Least and largest numbers: that there are some.
use Rattle.std.proofs.Common.{◌≡◌, ℕ, zero, suc, ◌<◌, ◌≤◌, ◌⊎◌, refl, inl, inr, ⊎_elim, arith}
use Rattle.std.proofs.lemmas.Bool.{cases_lt}
use Rattle.arrivals.specs.Least.{Least, Largest}
use Rattle.runs.proofs.Counts.{below_suc}

-- the least number with P, up to n
abbrev UpTo : (ℕ → Type 0) → ℕ → Type 0
UpTo P n = (m : ℕ) × Least P m × (m ≤ n)

-- up to n there is a least one, or none
search : (P : ℕ → Type 0) → ((n : ℕ) → P n ⊎ (P n → ⊥)) → (n : ℕ) → UpTo P n ⊎ ((m : ℕ) → m ≤ n → P m → ⊥)
search P dec zero =
    ⊎_elim (λ h. inl (0, record { has = h; first = λ m _. omega arith }, omega arith))
    (λ no'. inr (λ m l h. let e : m ≡ 0 = omega arith in no' (rw e at h))) (dec 0)
search P dec (suc n) = go (search P dec n) (dec (suc n))
  where
    go : UpTo P n ⊎ ((m : ℕ) → m ≤ n → P m → ⊥) → P (suc n) ⊎ (P (suc n) → ⊥)
        → UpTo P (suc n) ⊎ ((m : ℕ) → m ≤ suc n → P m → ⊥)
    go (inl s) d = inl (s.0, s.1, omega arith)
    go (inr none) (inl h) =
        inl (
          suc n,
          record {
            has = h;
            first = λ m hm. ⊎_elim (λ (a : m < suc n). absurd (none m (omega arith) hm)) (λ (a : suc n ≤ m). a)
                (cases_lt m (suc n));
          },
          omega arith,
        )
    go (inr none) (inr no') =
        inr (λ m l h. ⊎_elim (λ (a : m < suc n). none m (omega arith) h)
        (λ (a : suc n ≤ m). let e : m ≡ suc n = omega arith in no' (rw e at h)) (cases_lt m (suc n)))

-- where there is one, there is a least
pub least : (P : ℕ → Type 0) → ((n : ℕ) → P n ⊎ (P n → ⊥)) → (n : ℕ) → P n → UpTo P n
least P dec n h = ⊎_elim (λ s. s) (λ none. absurd (none n (omega arith) h)) (search P dec n)

pub largest : (f : ℕ → ℕ) (low high : ℕ) → low ≤ high → (n : ℕ) × Largest f low high n
largest f low zero l = (
  f 0,
  record {
    bounds = λ k a b. let e : k ≡ 0 = omega arith in rw e (omega arith);
    at = 0;
    from = l;
    to = omega
        arith;
    met = refl;
  },
)
largest f low (suc h) l = go (cases_lt h low) (λ a. largest f low h a)
  where
    only : h < low → (k : ℕ) → low ≤ k → k ≤ suc h → k ≡ suc h
    only a k b c = omega arith

    more : (n : ℕ) → Largest f low h n → (n < f (suc h)) ⊎ (f (suc h) ≤ n) → (m : ℕ) × Largest f low (suc h) m
    more n s (inl a) = (
      f (suc h),
      record {
        bounds = λ k b c. ⊎_elim (λ (d : k < suc h). omega (arith, s.bounds k b (omega arith)))
            (λ e. rw e (omega arith)) (below_suc k (suc h) (omega arith));
        at = suc h;
        from = l;
        to = omega arith;
        met = refl;
      },
    )
    more n s (inr a) = (
      n,
      record {
        bounds = λ k b c. ⊎_elim (λ (d : k < suc h). s.bounds k b (omega arith)) (λ e. rw e a)
            (below_suc k (suc h) (omega arith));
        at = s.at;
        from = s.from;
        to = omega arith;
        met = s.met;
      },
    )

    go : (h < low) ⊎ (low ≤ h) → (low ≤ h → (n : ℕ) × Largest f low h n) → (n : ℕ) × Largest f low (suc h) n
    go (inl a) rec = (
      f (suc h),
      record
          { bounds = λ k b c. rw (only a k b c) (omega arith); at = suc h; from = l; to = omega arith; met = refl },
    )
    go (inr a) rec = let r = rec a in more r.0 r.1 (cases_lt r.0 (f (suc h)))

-- a function, from an answer for each k up to n
pub choose : (n : ℕ) (P : ℕ → ℕ → Type 0) → ((k : ℕ) → k ≤ n → (x : ℕ) × P k x)
    → (f : ℕ → ℕ) × ((k : ℕ) → k ≤ n → P k (f k))
choose n P ex = (λ k. pick k (cases_lt n k), λ k l. good k (cases_lt n k) l)
  where
    pick : (k : ℕ) → (n < k) ⊎ (k ≤ n) → ℕ
    pick k (inl _) = 0
    pick k (inr l) = (ex k l).0

    good : (k : ℕ) (c : (n < k) ⊎ (k ≤ n)) → k ≤ n → P k (pick k c)
    good k (inl a) l = absurd (omega arith)
    good k (inr a) l = (ex k a).1
