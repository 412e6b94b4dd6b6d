-- Sums over lists, and a union bound.
use Rattle.std.proofs.Common.{◌≡◌, ℕ, ◌<◌, ◌≤◌, Bool, true, false, cond, not, ◌&&◌, eqb, ◌⊎◌, List, [], ◌∷◌, ◌++◌, sum_by, refl, ap, ◌∙◌, inl, inr, ⊎_elim, arith}
use Rattle.std.proofs.lemmas.List.Sums.{sum_by-cons, sum_by-append}
use Rattle.std.proofs.lemmas.Bool.{and_from, and_parts, eq-eqb, cases_Bool, both_ways, not-true, not_from_false}
use Rattle.runs.specs.Count.{count}
use Rattle.figures.specs.Tables.{◌∈◌, over}
use Rattle.runs.proofs.Counts.{count_le, count_or, count_none}

-- Each k that passes p has the key of an element of xs, and no element's key has more than f of it: p passes at most the
-- sum of f.
pub union_bound : {X : Type 0} (f : X → ℕ) (key : X → ℕ) (xs : List X) (p : ℕ → Bool) (class : ℕ → ℕ) (n : ℕ)
    → ((k : ℕ) → k < n → p k ≡ true → (x : X) × (x ∈ xs) × (class k ≡ key x))
    → ((x : X) → x ∈ xs → count (λ k. p k && eqb (class k) (key x)) n ≤ f x)
    → count p n ≤ sum_by f xs
union_bound f key [] p class n known each = omega (arith, count_none p n (λ k l h. absurd (known k l h).1))
union_bound {X} f key (x ∷ xs) p class n known each =
    omega (
      arith,
      sum_by-cons f x xs,
      each x (inl refl),
      count_or p (λ k. p k && eqb (class k) (key x)) rest n
          (λ k _ h. ⊎_elim (λ c. inl (and_from (p k) _ h c)) (λ c. inr (and_from (p k) _ h (not_from_false _ c)))
          (cases_Bool (eqb (class k) (key x)))),
      union_bound f key xs rest class n others
          (λ y m. omega (
            arith,
            each y (inr m),
            count_le (λ k. rest k && eqb (class k) (key y)) (λ k. p k && eqb (class k) (key y)) n
                (λ k _ h. let a = and_parts (rest k) (eqb (class k) (key y)) h in and_from (p k) _
                (and_parts (p k) _ a.0).0 a.1),
          )),
    )
  where
    rest : ℕ → Bool
    rest k = p k && not (eqb (class k) (key x))

    others : (k : ℕ) → k < n → rest k ≡ true → (y : X) × (y ∈ xs) × (class k ≡ key y)
    others k l h =
        let a = and_parts (p k) (not (eqb (class k) (key x))) h in
        let s = known k l a.0 in
        ⊎_elim (λ e. absurd (both_ways (eqb (class k) (key x)) (not-true _ a.1) (eq-eqb _ _ (s.2 ∙ ap key e))))
        (λ m. (s.0, m, s.2)) s.1

pub sums_le : {X : Type 0} (f g : X → ℕ) (xs : List X) → ((x : X) → x ∈ xs → f x ≤ g x) → sum_by f xs ≤ sum_by g xs
sums_le f g [] h = omega arith
sums_le f g (x ∷ xs) h = omega
    (arith, sum_by-cons f x xs, sum_by-cons g x xs, h x (inl refl), sums_le f g xs (λ y m. h y (inr m)))

pub over_le : {X : Type 0} (p : X → Bool) (f g : X → ℕ) (xs : List X) → ((x : X) → x ∈ xs → f x ≤ g x)
    → over p f xs ≤ over p g xs
over_le p f g xs h =
    sums_le (λ x. cond (p x) (f x) 0) (λ x. cond (p x) (g x) 0) xs (λ x m. step (p x) (f x) (g x) (h x m))
  where
    step : (b : Bool) (m n : ℕ) → m ≤ n → cond b m 0 ≤ cond b n 0
    step true m n l = l
    step false m n l = omega arith

pub sums_without : {X : Type 0} (f : X → ℕ) (xs ys : List X) (x : X) → sum_by f (xs ++ ys) ≤ sum_by f (xs ++ x ∷ ys)
sums_without f xs ys x = omega (arith, sum_by-append f xs ys, sum_by-append f xs (x ∷ ys), sum_by-cons f x ys)

pub still_in : {X : Type 0} (xs ys : List X) (x z : X) → z ∈ (xs ++ ys) → z ∈ (xs ++ x ∷ ys)
still_in [] ys x z m = inr m
still_in (y ∷ xs) ys x z m = ⊎_elim inl (λ n. inr (still_in xs ys x z n)) m

pub one_or_in : {X : Type 0} (xs ys : List X) (x z : X) → z ∈ (xs ++ x ∷ ys) → (z ≡ x) ⊎ (z ∈ (xs ++ ys))
one_or_in [] ys x z m = m
one_or_in (y ∷ xs) ys x z m = ⊎_elim (λ e. inr (inl e)) (λ n. ⊎_elim inl (λ o. inr (inr o)) (one_or_in xs ys x z n)) m

pub sums_has : {X : Type 0} (f : X → ℕ) (xs : List X) (x : X) → x ∈ xs → f x ≤ sum_by f xs
sums_has f [] x m = absurd m
sums_has f (y ∷ ys) x m =
    ⊎_elim (λ e. omega (arith, sum_by-cons f y ys, ap f e)) (λ n. omega (arith, sum_by-cons f y ys, sums_has f ys x n)) m
