-- The steps of a loop over a list whose elements have no default.
use Rattle.std.proofs.Common.{◌≡◌, ℕ, zero, suc, ◌+◌, ◌<◌, List, [], ◌∷◌, length, get_or, take, drop, sym, refl, ap, ◌∙◌, inl, inr, arith, length-take}
use Rattle.std.proofs.lemmas.List.{drop_more, get_or-take}
use Rattle.figures.specs.Tables.{◌∈◌}

-- the element that a loop reads at i stands before the rest
pub drop_item : {X : Type 0} (xs : List X) (i : ℕ) (x : X) → i < length xs → x ≡ get_or xs i x → drop i xs ≡ x ∷ drop (i + 1) xs
drop_item xs i x h read = drop_more xs i x h ∙ ap (λ y. y ∷ drop (i + 1) xs) (sym read)

-- what stands in a list stands at a place of it
pub in_place : {X : Type 0} (xs : List X) (x : X) → x ∈ xs → (j : ℕ) × (j < length xs) × ((d : X) → x ≡ get_or xs j d)
in_place [] x m = absurd m
in_place (y ∷ ys) x (inl e) = (0, omega arith, λ d. e)
in_place (y ∷ ys) x (inr m) = let p = in_place ys x m in (suc p.0, omega (arith, p.1), p.2)

pub at_in : {X : Type 0} (xs : List X) (j : ℕ) (d : X) → j < length xs → get_or xs j d ∈ xs
at_in [] j d h = absurd (omega arith)
at_in (y ∷ ys) zero d h = inl refl
at_in (y ∷ ys) (suc j) d h = inr (at_in ys j d (omega arith))

pub in_front : {X : Type 0} (xs : List X) (i : ℕ) (x : X) → x ∈ take i xs → (j : ℕ) × (j < i) × (j < length xs) × ((d : X) → x ≡ get_or xs j d)
in_front xs i x m =
    let p = in_place (take i xs) x m in
    let l = length-take i xs in
    (p.0, omega (arith, p.1, l), omega (arith, p.1, l), λ d. p.2 d ∙ get_or-take i xs p.0 d (omega (arith, p.1, l)))
