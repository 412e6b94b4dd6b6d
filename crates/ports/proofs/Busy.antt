-- A port's busy period: when it is clear again, and where most cells hold a place.
use Rattle.std.proofs.Common.{◌≡◌, ℕ, ◌+◌, ◌-◌, ◌*◌, ◌/◌, ◌<◌, ◌≤◌, min, max, ◌⊎◌, ap, subst, inl, inr, mul-le-mul_right, add-mul, one-mul, div-mul-le_self, arith}
use Rattle.std.proofs.lemmas.Bool.{cases_lt}
use Rattle.std.proofs.lemmas.Nat.{le-div, div_below, div-mul-add}
use Rattle.arrivals.specs.Least.{Largest}
use Rattle.ports.specs.Limits.{horizon}
use Rattle.ports.specs.Loads.{Rising}
use Rattle.ports.specs.Port.{Clears, holding}

module _ (C : ℕ) (pos : 1 ≤ C) where
  -- so many cells and a dump are sent by then
  sent_by : (n v : ℕ) → 1 ≤ n → n ≤ (v + 1 - C) / C → n * C + (C - 1) ≤ v
  sent_by n v some h =
      omega (arith, mul-le-mul_right {m = n} {n = (v + 1 - C) / C} C h, div-mul-le_self (v + 1 - C) C, mul-le-mul_right {m = 1} {n = n} C some, one-mul C)

  -- and not before
  pub not_clear : (n u : ℕ) → (u + 1 - C) / C < n → u < n * C + (C - 1)
  not_clear n u h =
      elim (cases_lt u (n * C + (C - 1))) [
        | inl less ↦ less
        | inr le ↦ absurd (omega (arith, le-div n (u + 1 - C) C pos (omega arith)))
      ]

  module _ (G : ℕ → ℕ) (rising : Rising G) where
    -- nothing clears the port before a step of the search does
    pub clear_later : (u : ℕ) → u ≤ horizon → (u + 1 - C) / C < G u → (v : ℕ) → v ≤ horizon → u ≤ v → Clears C G v → G u * C + (C - 1) ≤ v
    clear_later u near busy v le after clear =
        let more : G u ≤ G v = rising u v after (omega arith) in
        let few : G u ≤ (v + 1 - C) / C = omega (arith, clear.1) in
        sent_by (G u) v (omega arith) few

  no_quotient : (x : ℕ) → x < C → x / C ≡ 0
  no_quotient x h = omega (arith, div_below x C 1 pos (omega (arith, one-mul C)))

  -- within one sending the quotient stays
  same_quotient : (m v : ℕ) → 1 ≤ m → m * C ≤ v → v < m * C + C → (v - C) / C ≡ m - 1
  same_quotient m v some low high =
      let split : (m - 1) * C + (v - m * C) ≡ v - C = omega (arith, add-mul (m - 1) 1 C, one-mul C, ap (λ x. x * C) {x = m - 1 + 1} {y = m} (omega arith)) in
      subst (λ x. x / C ≡ m - 1) split (div-mul-add (m - 1) C (v - m * C) (omega arith))

-- the most that is held up to u, where u is the last tick of a sending, or the last tick of all
pub record Scanned (C : ℕ) (G : ℕ → ℕ) (until u most : ℕ) : Type 0 where
  pub low : 1 ≤ u
  pub high : u ≤ until
  pub block : (u ≡ until) ⊎ ((m : ℕ) × (u + 1 ≡ m * C))
  pub worst : Largest (holding C G) 1 u most

module _ (C : ℕ) (pos : 1 ≤ C) (G : ℕ → ℕ) (rising : Rising G) (until : ℕ) (some : 1 ≤ until) (near : until ≤ horizon) where
  pub scanned_first : (u : ℕ) → u ≡ min until (2 * C - 1) → Scanned C G until u (holding C G u)
  scanned_first u e = record {
    low = omega arith;
    high = omega arith;
    block = elim (cases_lt (2 * C - 1) until) [ inl less ↦ inr (2, omega arith) | inr le ↦ inl (omega arith) ];
    worst = record {
      bounds = λ v from to. omega (arith, rising v u to (omega arith), no_quotient C pos (u - C) (omega arith));
      at = u;
      from = omega arith;
      to = omega arith;
      met = omega arith;
    };
  }

  module _ (u most : ℕ) (less : u < until) (scanned : Scanned C G until u most) (n : ℕ) (next : n ≡ min until (u + C)) where
    ends : (m : ℕ) × (u + 1 ≡ m * C)
    ends = elim scanned.block [ inl last ↦ absurd (omega arith) | inr b ↦ b ]

    some_sent : 1 ≤ ends.0
    some_sent =
        elim (cases_lt 0 ends.0) [
          | inl more ↦ more
          | inr none ↦ absurd (omega (arith, ends.1, ap (λ x. x * C) {x = ends.0} {y = 0} (omega arith)))
        ]

    level : (v : ℕ) → u < v → v ≤ n → (v - C) / C ≡ ends.0 - 1
    level v after to = same_quotient C pos ends.0 v some_sent (omega (arith, ends.1)) (omega (arith, ends.1))

    here_most : (v : ℕ) → u < v → v ≤ n → holding C G v ≤ holding C G n
    here_most v after to =
        omega (arith, rising v n to (omega arith), level v after to, level n (omega arith) (omega arith))

    met_more : (v : ℕ) × (1 ≤ v) × (v ≤ n) × (holding C G v ≡ max most (holding C G n))
    met_more =
        elim (cases_lt most (holding C G n)) [
          | inl more ↦ (n, omega arith, omega arith, omega arith)
          | inr le ↦
              (scanned.worst.at, scanned.worst.from, omega (arith, scanned.worst.to), omega (arith, scanned.worst.met))
        ]

    pub scanned_next : Scanned C G until n (max most (holding C G n))
    scanned_next = record {
      low = omega arith;
      high = omega arith;
      block = elim (cases_lt (u + C) until) [
        | inl more ↦ inr (ends.0 + 1, omega (arith, ends.1, add-mul ends.0 1 C, one-mul C))
        | inr le ↦ inl (omega arith)
      ];
      worst = record {
        bounds = λ v from to.
            elim (cases_lt u v) [
              | inl after ↦ omega (arith, here_most v after to)
              | inr before ↦ omega (arith, scanned.worst.bounds v from before)
            ];
        at = met_more.0;
        from = met_more.1;
        to = met_more.2;
        met = met_more.3;
      };
    }
