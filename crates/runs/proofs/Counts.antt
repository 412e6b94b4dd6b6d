-- Laws of `count`, and two searches over the numbers below a bound.
use Rattle.std.proofs.Common.{◌≡◌, ℕ, zero, suc, ◌+◌, ◌<◌, ◌≤◌, Bool, true, false, cond, eqb, ◌⊎◌, refl, subst, inl, inr, ⊎_elim, arith}
use Rattle.std.proofs.lemmas.Bool.{cases_lt, both_ways, eq-eqb, eqb-true}
use Rattle.runs.specs.Count.{count}

-- below suc n: below n, or n
pub below_suc : (k n : ℕ) → k < suc n → (k < n) ⊎ (k ≡ n)
below_suc k n l = ⊎_elim inl (λ (m : n ≤ k). inr (omega arith)) (cases_lt k n)

-- one step of each law, on the answers of the tests
step_le : (a b : Bool) → (a ≡ true → b ≡ true) → cond a 1 0 ≤ cond b 1 0
step_le a b h = grind arith

step_or : (a b c : Bool) → (a ≡ true → (b ≡ true) ⊎ (c ≡ true)) → cond a 1 0 ≤ cond b 1 0 + cond c 1 0
step_or a b c h = grind arith

step_and : (a b c : Bool) → (a ≡ true → c ≡ true) → (b ≡ true → c ≡ true) → (a ≡ true → b ≡ true → ⊥)
    → cond a 1 0 + cond b 1 0 ≤ cond c 1 0
step_and a b c h k no' = grind arith

-- what passes p passes q
pub count_le : (p q : ℕ → Bool) (n : ℕ) → ((k : ℕ) → k < n → p k ≡ true → q k ≡ true) → count p n ≤ count q n
unfolding count
count_le p q zero h = omega arith
count_le p q (suc n) h =
    omega (arith, step_le (p n) (q n) (h n (omega arith)), count_le p q n (λ k l. h k (omega arith)))

-- what passes p passes q or r
pub count_or : (p q r : ℕ → Bool) (n : ℕ) → ((k : ℕ) → k < n → p k ≡ true → (q k ≡ true) ⊎ (r k ≡ true))
    → count p n ≤ count q n + count r n
unfolding count
count_or p q r zero h = omega arith
count_or p q r (suc n) h =
    omega (arith, step_or (p n) (q n) (r n) (h n (omega arith)), count_or p q r n (λ k l. h k (omega arith)))

-- p and q are apart, and within r
pub count_and : (p q r : ℕ → Bool) (n : ℕ) → ((k : ℕ) → k < n → p k ≡ true → r k ≡ true)
    → ((k : ℕ) → k < n → q k ≡ true → r k ≡ true) → ((k : ℕ) → k < n → p k ≡ true → q k ≡ true → ⊥)
    → count p n + count q n ≤ count r n
unfolding count
count_and p q r zero f g no' = omega arith
count_and p q r (suc n) f g no' =
    omega (
      arith,
      step_and (p n) (q n) (r n) (f n (omega arith)) (g n (omega arith)) (no' n (omega arith)),
      count_and p q r n (λ k l. f k (omega arith)) (λ k l. g k (omega arith)) (λ k l. no' k (omega arith)),
    )

-- one that passes, or none does
pub some_or_none : (p : ℕ → Bool) (n : ℕ) → ((k : ℕ) × (k < n) × (p k ≡ true)) ⊎ ((k : ℕ) → k < n → p k ≡ true → ⊥)
some_or_none p zero = inr (λ k l _. omega arith)
some_or_none p (suc n) = go (p n) refl (some_or_none p n)
  where
    go : (b : Bool) → p n ≡ b → ((k : ℕ) × (k < n) × (p k ≡ true)) ⊎ ((k : ℕ) → k < n → p k ≡ true → ⊥)
        → ((k : ℕ) × (k < suc n) × (p k ≡ true)) ⊎ ((k : ℕ) → k < suc n → p k ≡ true → ⊥)
    go true e r = inl (n, omega arith, e)
    go false e (inl s) = inl (s.0, omega arith, s.2)
    go false e (inr f) = inr
        (λ k l h. ⊎_elim (λ m. f k m h) (λ m. both_ways (p n) e (subst (λ j. p j ≡ true) m h)) (below_suc k n l))

-- none passes: the count is 0. One passes: it is at least 1
pub count_none : (p : ℕ → Bool) (n : ℕ) → ((k : ℕ) → k < n → p k ≡ true → ⊥) → count p n ≡ 0
unfolding count
count_none p zero h = refl
count_none p (suc n) h = go (p n) (h n (omega arith)) (count_none p n (λ k l. h k (omega arith)))
  where
    go : (b : Bool) → (b ≡ true → ⊥) → count p n ≡ 0 → cond b 1 0 + count p n ≡ 0
    go true no' e = absurd (no' refl)
    go false no' e = omega arith

pub count_has : (p : ℕ → Bool) (n k : ℕ) → k < n → p k ≡ true → 1 ≤ count p n
unfolding count
count_has p zero k l h = omega arith
count_has p (suc n) k l h = ⊎_elim (λ m. omega (arith, count_has p n k m h)) (λ m. first (subst (λ j. p j ≡ true) m h))
    (below_suc k n l)
  where
    first : p n ≡ true → 1 ≤ cond (p n) 1 0 + count p n
    first e = rw e (omega arith)

pub count_find : (p : ℕ → Bool) (n : ℕ) → 1 ≤ count p n → (k : ℕ) × (k < n) × (p k ≡ true)
count_find p n h = ⊎_elim (λ s. s) (λ f. absurd (no' f)) (some_or_none p n)
  where
    no' : ((k : ℕ) → k < n → p k ≡ true → ⊥) → ⊥
    no' f = omega (arith, count_none p n f)

-- p is within q, and x passes q alone: q counts more
pub count_more : (p q : ℕ → Bool) (n x : ℕ) → ((k : ℕ) → k < n → p k ≡ true → q k ≡ true) → x < n → q x ≡ true
    → (p x ≡ true → ⊥) → count p n + 1 ≤ count q n
count_more p q n x sub l yes' no' =
    omega (
      arith,
      count_and p (λ k. eqb x k) q n sub (λ k _ e. subst (λ j. q j ≡ true) (eqb-true x k e) yes')
          (λ k _ h e. no' (rw (eqb-true x k e) h)),
      count_has (λ k. eqb x k) n x l (eq-eqb x x refl),
    )

-- the last number up to `hi` with P, where each number has P or N
abbrev pub Last : (ℕ → Type 0) → (ℕ → Type 0) → ℕ → Type 0
Last P N hi = (y : ℕ) × (y ≤ hi) × P y × ((u : ℕ) → y < u → u ≤ hi → N u)

pub last : (P N : ℕ → Type 0) → ((u : ℕ) → P u ⊎ N u) → (hi v : ℕ) → v ≤ hi → P v → Last P N hi
last P N dec zero v l h = (v, l, h, λ u a b. absurd (omega arith))
last P N dec (suc m) v l h = go (dec (suc m)) (below_suc v (suc m) (omega arith)) (last P N dec m)
  where
    go : P (suc m) ⊎ N (suc m) → (v < suc m) ⊎ (v ≡ suc m) → ((w : ℕ) → w ≤ m → P w → Last P N m) → Last P N (suc m)
    go (inl yes') c rec = (suc m, omega arith, yes', λ u a b. absurd (omega arith))
    go (inr no') (inr e) rec = (v, l, h, λ u a b. absurd (omega arith))
    go (inr no') (inl e) rec =
        let r = rec v (omega arith) h in (
          r.0,
          omega arith,
          r.2,
          λ u a b. ⊎_elim (λ (c : u < suc m). r.3 u a (omega arith)) (λ c. rw c no')
              (below_suc u (suc m) (omega arith)),
        )
