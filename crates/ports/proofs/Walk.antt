-- A walk over the cells of a busy period, one after the other, to the last.
use Rattle.std.proofs.Common.{◌≡◌, ℕ, ◌+◌, ◌-◌, ◌<◌, ◌≤◌, max, cond, eqb, ◌⊎◌, Some, sym, refl, subst, inl, inr, arith}
use Rattle.std.proofs.lemmas.Bool.{cases_lt, cond-true, cond-false, eq-eqb, ne_eqb}
use Rattle.arrivals.specs.Least.{Least}
use Rattle.ports.specs.Limits.{horizon}
use Rattle.ports.specs.Loads.{Rising, Below}
use Rattle.ports.specs.Port.{ahead, Starts, Wait, Queued, Delay}
use Rattle.ports.proofs.Leaps.{below_step, fixed_under, ahead_rises_near, ahead_more}

-- f, but v at k
pub put : (ℕ → ℕ) → ℕ → ℕ → ℕ → ℕ
put f k v j = cond (eqb j k) v (f j)

pub put_same : (f : ℕ → ℕ) (k v : ℕ) → put f k v k ≡ v
unfolding put
put_same f k v = cond-true (eqb k k) _ _ (eq-eqb k k refl)

pub put_other : (f : ℕ → ℕ) (k v j : ℕ) → j < k → put f k v j ≡ f j
unfolding put
put_other f k v j h = cond-false (eqb j k) _ _ (ne_eqb j k (λ e. omega arith))

-- what holds of the cells below k, and of k, holds of the cells up to k
puts : (P : ℕ → ℕ → ℕ → Type 0) (f g : ℕ → ℕ) (k v u : ℕ) → P k v u → ((j : ℕ) → j < k → P j (f j) (g j)) → (j : ℕ) → j ≤ k → P j (put f k v j) (put g k u j)
puts P f g k v u here before j h =
    elim (cases_lt j k) [
      | inl less ↦
          subst (λ x. P j x (put g k u j)) (sym (put_other f k v j less))
          (subst (λ y. P j (f j) y) (sym (put_other g k u j less)) (before j less))
      | inr le ↦
          let same : k ≡ j = omega arith in
          subst (λ i. P i (put f k v i) (put g k u i)) same
          (subst (λ x. P k x (put g k u k)) (sym (put_same f k v)) (subst (λ y. P k v y) (sym (put_same g k u)) here))
    ]

-- the cells below k belong to the busy period, d is the worst of their delays, and the searches for the cell k may go on from `from` and `e`
pub record Walk (C : ℕ) (α β : ℕ → ℕ) (k d from e : ℕ) : Type 0 where
  pub wait : ℕ → ℕ
  pub early : ℕ → ℕ
  pub waits : (j : ℕ) → j < k → Wait C β j (Some (wait j))
  pub comes : (j : ℕ) → j < k → Least (Queued α j) (early j)
  pub goes_on : (j : ℕ) → j < k → j + 1 < α (wait j + 1)
  pub below : Below (ahead C β k) horizon from
  pub reach : (w : ℕ) → Wait C β k (Some w) → Queued α k w
  pub after : (t : ℕ) → Queued α k t → e ≤ t
  pub most : (j : ℕ) → j < k → wait j - early j ≤ d
  pub met : (d ≡ 0) ⊎ ((j : ℕ) × (j < k) × (wait j - early j ≡ d))

-- a later cell waits as long at least
waits_rise : (C : ℕ) (β : ℕ → ℕ) → Rising β → (k w v : ℕ) → Wait C β k (Some w) → v ≤ horizon → Starts C β (k + 1) v → w ≤ v
waits_rise C β ordered k w v p near starts =
    let u = fixed_under (ahead C β k) horizon (ahead_rises_near C β ordered k) v v (omega arith) near (omega (arith, ahead_more C β k v)) in
    omega (arith, p.1.first u.0 u.2, u.1)

module _ {C : ℕ} {α β : ℕ → ℕ} (some : 1 ≤ α 1) (rising : Rising α) (ordered : Rising β) where
  pub walk_none : Walk C α β 0 0 (C - 1) 0
  walk_none = record {
    wait = λ _. 0;
    early = λ _. 0;
    waits = λ j h. absurd (omega arith);
    comes = λ j h. absurd (omega arith);
    goes_on = λ j h. absurd (omega arith);
    below = record { none_before = λ v le fixed. omega arith; steps_up = λ le. omega arith };
    reach = λ w p. omega (arith, some, rising 1 (w + 1) (omega arith) (omega (arith, p.0)));
    after = λ t q. omega arith;
    most = λ j h. absurd (omega arith);
    met = inl refl;
  }

  module _ {k d from e₀ w e : ℕ} (walk : Walk C α β k d from e₀) (waits : Wait C β k (Some w)) (comes : Least (Queued α k) e) where
    all_waits : (j : ℕ) → j ≤ k → Wait C β j (Some (put walk.wait k w j))
    all_waits = puts (λ j x y. Wait C β j (Some x)) walk.wait walk.early k w e waits walk.waits

    all_come : (j : ℕ) → j ≤ k → Least (Queued α j) (put walk.early k e j)
    all_come = puts (λ j x y. Least (Queued α j) y) walk.wait walk.early k w e comes walk.comes

    all_most : (j : ℕ) → j ≤ k → put walk.wait k w j - put walk.early k e j ≤ max d (w - e)
    all_most =
        puts (λ j x y. x - y ≤ max d (w - e)) walk.wait walk.early k w e (omega arith)
        (λ j h. omega (arith, walk.most j h))

    met_here : w - e ≡ max d (w - e) → put walk.wait k w k - put walk.early k e k ≡ max d (w - e)
    met_here same = omega (arith, put_same walk.wait k w, put_same walk.early k e)

    met_more : (j : ℕ) × (j ≤ k) × (put walk.wait k w j - put walk.early k e j ≡ max d (w - e))
    met_more =
        elim walk.met [
          | inl none ↦ (k, omega arith, met_here (omega arith))
          | inr m ↦
              elim (cases_lt d (w - e)) [
                | inl worse ↦ (k, omega arith, met_here (omega arith))
                | inr no-worse ↦
                    (m.0, omega (arith, m.1), omega (arith, m.2, put_other walk.wait k w m.0 m.1, put_other walk.early k e m.0 m.1))
              ]
        ]

    below_here : Below (ahead C β (k + 1)) horizon w
    below_here = record {
      none_before = λ v le fixed. waits_rise C β ordered k w v waits le fixed;
      steps_up = λ le. omega (arith, ahead_more C β k w, waits.1.has);
    }

    pub walk_more : k + 1 < α (w + 1) → Walk C α β (k + 1) (max d (w - e)) (w + C) e
    walk_more more = record {
      wait = put walk.wait k w;
      early = put walk.early k e;
      waits = λ j h. all_waits j (omega arith);
      comes = λ j h. all_come j (omega arith);
      goes_on = λ j h. puts (λ j x y. j + 1 < α (x + 1)) walk.wait walk.early k w e more walk.goes_on j (omega arith);
      below = below_step (ahead C β (k + 1)) horizon (ahead_rises_near C β ordered (k + 1)) w (w + C) waits.0 (omega (arith, ahead_more C β k w, waits.1.has)) below_here;
      reach = λ v p.
          omega (arith, rising (w + 1) (v + 1) (omega (arith, waits_rise C β ordered k w v waits p.0 p.1.has)) (omega (arith, p.0)));
      after = λ t q. comes.first t (omega (arith, q));
      most = λ j h. all_most j (omega arith);
      met = inr (met_more.0, omega (arith, met_more.1), met_more.2);
    }

    pub walk_ends : α (w + 1) ≤ k + 1 → Delay C α β (max d (w - e))
    walk_ends enough = record {
      wait = put walk.wait k w;
      early = put walk.early k e;
      last = k;
      waits = all_waits;
      comes = all_come;
      stops = record {
        has = subst (λ x. α (x + 1) ≤ k + 1) (sym (put_same walk.wait k w)) enough;
        first = λ j h.
            elim (cases_lt j k) [
              | inl less ↦
                  let goes = walk.goes_on j less in
                  let stops : α (walk.wait j + 1) ≤ j + 1 = subst (λ x. α (x + 1) ≤ j + 1) (put_other walk.wait k w j less) h in
                  absurd (omega arith)
              | inr le ↦ le
            ];
      };
      worst = record {
        bounds = λ j low h. all_most j h;
        at = met_more.0;
        from = omega arith;
        to = met_more.1;
        met = met_more.2;
      };
    }
