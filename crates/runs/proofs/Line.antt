-- What is on the line of a port while a cell waits; and how many cells a line can start.
use Rattle.std.proofs.Common.{◌≡◌, ℕ, zero, suc, ◌+◌, ◌-◌, ◌*◌, ◌/◌, ◌<◌, ◌≤◌, Bool, true, false, cond, ◌&&◌, ltb, ◌⊎◌, length, refl, inl, inr, ⊎_elim, arith}
use Rattle.std.proofs.lemmas.Bool.{and_from, and_parts, cases_lt, ltb-true, lt-ltb}
use Rattle.runs.specs.Count.{count, during, number}
use Rattle.runs.specs.Run.{Port, At, other, Waits, Serves}
use Rattle.runs.proofs.Counts.{some_or_none, count_none, count_or}
use Rattle.runs.proofs.During.{during_in, during_out, number_le}

-- the cell that starts at s is on the line at t
abbrev pub On : ℕ → ℕ → ℕ → Type 0
On cell t s = (s ≤ t) × (t < s + cell)

-- one of those that pass p and started before t is on the line at t, or none is
sent_or_none : (cell t : ℕ) (p : ℕ → Bool) (time : ℕ → ℕ) (n : ℕ)
    → ((k : ℕ) × (k < n) × (p k ≡ true) × On cell t (time k)) ⊎ ((k : ℕ) → k < n → p k ≡ true → time k < t
    → time k + cell ≤ t)
sent_or_none cell t p time n =
    ⊎_elim (λ s. let a = and_parts (p s.0) (ltb (time s.0) t && ltb t (time s.0 + cell)) s.2 in
    let c = and_parts (ltb (time s.0) t) (ltb t (time s.0 + cell)) a.1 in
    let b = ltb-true _ _ c.0 in inl (s.0, s.1, a.0, (omega arith, ltb-true _ _ c.1)))
    (λ f. inr (λ k l h a. ⊎_elim
    (λ (b : t < time k + cell). absurd (f k l (and_from _ _ h (and_from _ _ (lt-ltb _ _ a) (lt-ltb _ _ b)))))
    (λ b. b) (cases_lt t (time k + cell))))
    (some_or_none (λ k. p k && (ltb (time k) t && ltb t (time k + cell))) n)

pub on_the_line : {K : Type 0} (p : Port K) → Serves p → 1 ≤ p.cell → (t k : ℕ) → t < p.end → Waits p k t
    → ((z : ℕ) × At p z × On p.cell t (p.start z)) ⊎
    ((d : ℕ) × (d < length p.unreserved) × On p.cell t (other p d))
on_the_line p S c t k e waits =
    ⊎_elim (λ z. inl (z.0, (z.1, z.2), z.3))
    (λ no_cell. ⊎_elim (λ d. inr (d.0, d.1, d.3))
    (λ no_other.
    let z = S.works t k e waits
    (record { of_streams = λ k a. no_cell k a.0 a.1; of_others = λ d l. no_other d l refl }) in
    inl (z.0, z.1, (omega arith, omega arith)))
    (sent_or_none p.cell t (λ _. true) (other p) (length p.unreserved)))
    (sent_or_none p.cell t p.here p.start p.cells)

-- where any two that pass are one, at most one passes
pub count_one : (p : ℕ → Bool) (n : ℕ) → ((k z : ℕ) → k < n → z < n → p k ≡ true → p z ≡ true → k ≡ z) → count p n ≤ 1
unfolding count
count_one p zero h = omega arith
count_one p (suc n) h = go (p n) refl (count_one p n (λ k z a b. h k z (omega arith) (omega arith)))
  where
    go : (b : Bool) → p n ≡ b → count p n ≤ 1 → cond b 1 0 + count p n ≤ 1
    go true e l = omega (arith, count_none p n (λ k a c. omega (arith, h k n (omega arith) (omega arith) c e)))
    go false e l = omega arith

-- those that pass p are a cell time apart: m cell times have at most m
spaced : (n : ℕ) (p : ℕ → Bool) (f : ℕ → ℕ) (c : ℕ)
    → ((k z : ℕ) → k < n → z < n → p k ≡ true → p z ≡ true → (k ≡ z) ⊎ ((f k + c ≤ f z) ⊎ (f z + c ≤ f k)))
    → (low m : ℕ) → number n p f low (low + m * c) ≤ m
spaced n p f c apart low zero =
    omega (
      arith,
      count_none (during p f low (low + 0 * c)) n
          (λ k l h. let o = during_out p f low (low + 0 * c) k h in omega arith),
    )
spaced n p f c apart low (suc m) =
    omega (
      arith,
      spaced n p f c apart low m,
      count_or (during p f low (low + suc m * c)) (during p f low mid) (during p f mid (mid + c)) n
          (λ k l h. let o = during_out p f low (low + suc m * c) k h in
          ⊎_elim (λ (a : f k < mid). inl (during_in p f low mid k o.0 o.1 a))
          (λ (a : mid ≤ f k). inr (during_in p f mid (mid + c) k o.0 a (omega arith))) (cases_lt (f k) mid)),
      count_one (during p f mid (mid + c)) n
          (λ k z kl zl h g.
          let o = during_out p f mid (mid + c) k h in
          let u = during_out p f mid (mid + c) z g in
          ⊎_elim (λ e. e) (λ d. ⊎_elim (λ (a : f k + c ≤ f z). absurd (omega arith))
          (λ (a : f z + c ≤ f k). absurd (omega arith)) d) (apart k z kl zl o.0 u.0)),
    )
  where
    mid : ℕ
    mid = low + m * c

-- in L ticks a line starts at most so many
pub rate : (n : ℕ) (p : ℕ → Bool) (f : ℕ → ℕ) (c : ℕ) → 1 ≤ c
    → ((k z : ℕ) → k < n → z < n → p k ≡ true → p z ≡ true → (k ≡ z) ⊎ ((f k + c ≤ f z) ⊎ (f z + c ≤ f k)))
    → (low L : ℕ) → 1 ≤ L → number n p f low (low + L) ≤ (L - 1) / c + 1
rate n p f c one apart low L l =
    let m = (L - 1) / c + 1 in
    let room : L ≤ m * c = omega arith in
    omega (
      arith,
      spaced n p f c apart low m,
      number_le n p p f f low (low + L) low (low + m * c)
          (λ k _ h a b. (h, a, omega arith)),
    )
