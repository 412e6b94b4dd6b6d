-- What the length of the longest front that passes a test says of the list.
use Rattle.std.proofs.Common.{◌≡◌, suc, ◌<◌, Bool, true, false, List, [], ◌∷◌, length, get_or, ap, ◌∙◌, ⊎_elim, one-add, arith}
use Rattle.std.proofs.lemmas.Bool.{cases_Bool, cond-false, cond-true}
use Rattle.std.specs.List.{prefix_len}

module _ {X : Type 0} (t : X → Bool) (x : X) (xs : List X) where
  -- the front goes on past an element that passes
  pub front_on : t x ≡ true → prefix_len t (x ∷ xs) ≡ suc (prefix_len t xs)
  front_on e = cond-true (t x) _ _ e ∙ one-add (prefix_len t xs)

  -- and ends before one that does not
  pub front_ends : t x ≡ false → prefix_len t (x ∷ xs) ≡ 0
  front_ends e = cond-false (t x) _ _ e

  -- where the front is the whole list, the first element passes, and so does the rest
  pub front_whole : prefix_len t (x ∷ xs) ≡ length (x ∷ xs) → (t x ≡ true) × (prefix_len t xs ≡ length xs)
  front_whole h =
      ⊎_elim (λ e. (e, omega (arith, front_on e))) (λ e. absurd (omega (arith, front_ends e))) (cases_Bool (t x))

-- the element that ends the front does not pass
pub stop : {X : Type 0} (t : X → Bool) (xs : List X) (d : X) → prefix_len t xs < length xs
    → t (get_or xs (prefix_len t xs) d) ≡ false
stop t [] d h = absurd (omega arith)
stop t (x ∷ xs) d h =
    ⊎_elim
    (λ e. let n = front_on t x xs e in ap (λ k. t (get_or (x ∷ xs) k d)) n ∙ stop t xs d (omega (arith, n)))
    (λ e. ap (λ k. t (get_or (x ∷ xs) k d)) (front_ends t x xs e) ∙ e)
    (cases_Bool (t x))
