-- Counts over a window of time.
use Rattle.std.proofs.Common.{◌≡◌, ℕ, zero, suc, ◌+◌, ◌*◌, ◌<◌, ◌≤◌, Bool, true, ◌&&◌, ltb, leb, ◌⊎◌, inl, inr, ⊎_elim, arith}
use Rattle.std.proofs.lemmas.Bool.{and_from, and_parts, le-leb, lt-ltb, leb-true, ltb-true}
use Rattle.runs.specs.Count.{during, number}
use Rattle.runs.proofs.Counts.{count_le, count_and, count_or}

pub during_in : (p : ℕ → Bool) (f : ℕ → ℕ) (low high k : ℕ) → p k ≡ true → low ≤ f k → f k < high
    → during p f low high k ≡ true
unfolding during
during_in p f low high k a b c =
    and_from (p k) _ a (and_from (leb low (f k)) (ltb (f k) high) (le-leb low (f k) b) (lt-ltb (f k) high c))

pub during_out : (p : ℕ → Bool) (f : ℕ → ℕ) (low high k : ℕ) → during p f low high k ≡ true
    → (p k ≡ true) × (low ≤ f k) × (f k < high)
unfolding during
during_out p f low high k h =
    let a = and_parts (p k) (leb low (f k) && ltb (f k) high) h in
    let b = and_parts (leb low (f k)) (ltb (f k) high) a.1 in
    (a.0, leb-true low (f k) b.0, ltb-true (f k) high b.1)

-- whatever is counted on the left is counted on the right
pub number_le : (n : ℕ) (p q : ℕ → Bool) (f g : ℕ → ℕ) (a b c d : ℕ)
    → ((k : ℕ) → k < n → p k ≡ true → a ≤ f k → f k < b → (q k ≡ true) × (c ≤ g k) × (g k < d))
    → number n p f a b ≤ number n q g c d
number_le n p q f g a b c d h =
    count_le (during p f a b) (during q g c d) n
    (λ k l e. let o = during_out p f a b k e in let i = h k l o.0 o.1 o.2 in during_in q g c d k i.0 i.1
    i.2)

-- one window after another
pub number_then : (n : ℕ) (p : ℕ → Bool) (f : ℕ → ℕ) (a b c : ℕ) → a ≤ b → b ≤ c
    → number n p f a b + number n p f b c ≤ number n p f a c
number_then n p f a b c ab bc =
    count_and (during p f a b) (during p f b c) (during p f a c) n
    (λ k l e. let o = during_out p f a b k e in during_in p f a c k o.0 (omega arith) (omega arith))
    (λ k l e. let o = during_out p f b c k e in during_in p f a c k o.0 (omega arith) (omega arith))
    (λ k l e e'. let o = during_out p f a b k e in let o' = during_out p f b c k e' in omega arith)

-- p is q or r
pub number_or : (n : ℕ) (p q r : ℕ → Bool) (f : ℕ → ℕ) (a b : ℕ)
    → ((k : ℕ) → k < n → p k ≡ true → (q k ≡ true) ⊎ (r k ≡ true))
    → number n p f a b ≤ number n q f a b + number n r f a b
number_or n p q r f a b h =
    count_or (during p f a b) (during q f a b) (during r f a b) n
    (λ k l e. let o = during_out p f a b k e in
    ⊎_elim (λ s. inl (during_in q f a b k s o.1 o.2)) (λ s. inr (during_in r f a b k s o.1 o.2))
    (h k l o.0))

-- each stretch of `c` ticks in [low, high) has one: m such stretches have m
pub stretches : (n : ℕ) (p : ℕ → Bool) (f : ℕ → ℕ) (c low high : ℕ)
    → ((y : ℕ) → low ≤ y → y + c ≤ high → 1 ≤ number n p f y (y + c))
    → (m : ℕ) → low + m * c ≤ high → m ≤ number n p f low (low + m * c)
stretches n p f c low high one zero l = omega arith
stretches n p f c low high one (suc m) l =
    let y = low + m * c in
    let more : low + suc m * c ≡ y + c = omega arith in
    rw more (omega (
      arith,
      one y (omega arith) (omega arith),
      stretches n p f c low high one m (omega arith),
      number_then n p f low y (y + c) (omega arith) (omega arith),
    ))
