-- What the streams of a port bring, all together, and how long each waits there.
use Rattle.std.proofs.Common.{◌≡◌, ℕ, ◌+◌, ◌<◌, ◌≤◌, Bool, true, cond, ◌&&◌, eqb, ltb, List, [], ◌∷◌, sym, refl, ap, ◌∙◌, subst, ⊎_elim, arith}
use Rattle.std.proofs.lemmas.Bool.{and_from, and_parts, both_ways, cond_both, eqb-true}
use Rattle.runs.specs.Count.{count, during, number}
use Rattle.figures.specs.declared.streams.Stream.{Stream}
use Rattle.ports.specs.Limits.{horizon}
use Rattle.ports.specs.Port.{Delay}
use Rattle.figures.specs.Tables.{◌∈◌, Distinct, over}
use Rattle.runs.specs.Run.{Port, At, Serves}
use Rattle.runs.proofs.Counts.{count_le, count_none}
use Rattle.runs.proofs.During.{during_in, during_out}
use Rattle.runs.proofs.Listed.{union_bound}
use Rattle.runs.proofs.Sound.{Falling}
use Rattle.runs.proofs.Waiting.{own, high, waited}

-- priorities are unique
pub ranked : {K : Type 0} (table : List (Stream K)) → Falling table → (s z : Stream K) → s ∈ table → z ∈ table
    → s.priority ≡ z.priority → s ≡ z
ranked [] f s z a b e = absurd a
ranked (x ∷ xs) f s z a b e =
    ⊎_elim (λ c. ⊎_elim (λ d. c ∙ sym d) (λ d. absurd (omega (arith, f.0 z d, ap (λ y. y.priority) c))) b)
    (λ c. ⊎_elim (λ d. absurd (omega (arith, f.0 s c, ap (λ y. y.priority) d))) (λ d. ranked xs f.1 s z c d e) b) a

module _ {K : Type 0} (table : List (Stream K)) (falling : Falling table) (distinct : Distinct table) (p : Port K)
    (at : Stream K → Bool)
    (known : (k : ℕ) → At p k → (p.stream k ∈ table) × (at (p.stream k) ≡ true)) (most : Stream K → ℕ → ℕ) (limit : ℕ)
    (few : (s : Stream K) → s ∈ table → (t w : ℕ) → 1 ≤ w → w ≤ limit
    → number p.cells (own p s) p.queued t (t + w) ≤ most s w) where
  -- what comes of the streams of the port with a higher priority than s
  abbrev pub higher : Stream K → ℕ → ℕ
  higher s w = over (λ z. at z && ltb s.priority z.priority) (λ z. most z w) table

  -- what comes of the streams that pass g
  pub of_streams : (c : ℕ → Bool) (g : Stream K → Bool)
      → ((k : ℕ) → k < p.cells → c k ≡ true → (p.here k ≡ true) × (g (p.stream k) ≡ true))
      → (t w : ℕ) → 1 ≤ w → w ≤ limit → number p.cells c p.queued t (t + w) ≤ over g (λ z. most z w) table
  of_streams c g h t w a b =
      union_bound (λ z. cond (g z) (most z w) 0) (λ z. z.number) table (during c p.queued t (t + w))
      (λ k. (p.stream k).number) p.cells
      (λ k l d. (p.stream k, (known k (l, (h k l (during_out c p.queued t (t + w) k d).0).0)).0, refl)) each
    where
      both : Stream K → ℕ → Bool
      both z k = during c p.queued t (t + w) k && eqb (p.stream k).number z.number

      parts : (z : Stream K) → z ∈ table → (k : ℕ) → k < p.cells → both z k ≡ true
          → (during (own p z) p.queued t (t + w) k ≡ true) × (g z ≡ true)
      parts z m k l d =
          let o = and_parts (during c p.queued t (t + w) k) (eqb (p.stream k).number z.number) d in
          let i = during_out c p.queued t (t + w) k o.0 in
          let f = h k l i.0 in
          let same = distinct (p.stream k) z (known k (l, f.0)).0 m (eqb-true _ _ o.1) in (
            during_in (own p z) p.queued t (t + w) k (and_from _ _ f.0 o.1) i.1 i.2,
            subst
                (λ y. g y ≡ true) same f.1,
          )

      each : (z : Stream K) → z ∈ table → count (both z) p.cells ≤ cond (g z) (most z w) 0
      each z m =
          cond_both (g z) (most z w) 0 (λ n. count (both z) p.cells ≤ n)
          (λ _. omega (
            arith,
            few z m t w a b,
            count_le (both z) (during (own p z) p.queued t (t + w)) p.cells
                (λ k l d. (parts z m k l d).0),
          ))
          (λ no'. omega (arith, count_none (both z) p.cells (λ k l d. both_ways (g z) no' (parts z m k l d).1)))

  -- a cell that waits has waited no longer than the delay of its stream
  pub delay_at : Serves p → 1 ≤ p.cell → ((k : ℕ) → At p k → p.queued k ≤ p.start k) → horizon + 1 ≤ limit
      → (s : Stream K) → s ∈ table → (q : ℕ) → Delay p.cell (most s) (higher s) q
      → (x : ℕ) → x < p.cells → own p s x ≡ true → (now : ℕ) → now < p.end → p.queued x ≤ now → now ≤ p.start x
      → now ≤ p.queued x + q
  delay_at S c comes_first l s m q D =
      waited p S c comes_first s
      (λ k a e. ap (λ y. y.number) (ranked table falling (p.stream k) s (known k a).0 m e))
      (λ k a e. ap (λ y. y.priority) (distinct (p.stream k) s (known k a).0 m e))
      limit (most s) (higher s) (few s m)
      (of_streams (high p s) (λ z. at z && ltb s.priority z.priority)
      (λ k kl h. let o = and_parts (p.here k) (ltb s.priority (p.stream k).priority) h
      in (o.0, and_from _ _ (known k (kl, o.0)).1 o.1)))
      q l D
