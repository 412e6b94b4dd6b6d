-- What is left of the memory when a record is put into its front and when one is taken out of it.
use Rattle.std.proofs.Common.{◌≡◌, ℕ, ◌+◌, ◌-◌, ◌<◌, ◌≤◌, List, [], ◌∷◌, ◌++◌, length, get_or, take, drop, set, sym, refl, ap, ◌∙◌, add-one, arith}
use Rattle.std.proofs.lemmas.List.{drop_more, get_or-take, append_assoc, drop-append-le, drop_at, drop-drop, drop-set-lt, length-append, length-take-le, take_at, take_more_set, take-set-le, take-take}
use Rattle.std.proofs.lemmas.Slice.{between_is}
use Rattle.std.specs.List.{between, insert, remove}
use borrow.Rule.Slice.PartMut.{put_mid}

-- the last of a part comes to its front
last_first : {X : Type 0} (q : List X) (e : X) (part : List X) → part ≡ q ++ e ∷ []
    → drop (length part - 1) part ++ take (length part - 1) part ≡ e ∷ q
last_first q e part is =
    let n : length q ≡ length part - 1 = omega (arith, ap length is, length-append q (e ∷ [])) in
    let d : drop (length part - 1) part ≡ e ∷ [] = ap (drop (length part - 1)) is ∙ drop_at q (e ∷ []) _ n in
    let t : take (length part - 1) part ≡ q = ap (take (length part - 1)) is ∙ take_at q (e ∷ []) _ n in
    rw (d, t)

pub rotated_in : {X : Type 0} (m : List X) (n a : ℕ) (e : X) (ys : List X) → a ≤ n → n < length m
    → ys ≡ drop (length (between a (n + 1) (set m n e)) - 1) (between a (n + 1) (set m n e))
    ++ take (length (between a (n + 1) (set m n e)) - 1) (between a (n + 1) (set m n e))
    → put_mid a (n + 1 - a) (set m n e) ys ≡ insert (take n m) a e ++ drop (n + 1) m
rotated_in m n a e ys le lt is =
    let len : length (take n m) ≡ n = length-take-le n m (omega arith) in
    let fits : a ≤ length (take n m) = omega arith in
    let part : between a (n + 1) (set m n e) ≡ drop a (take n m) ++ e ∷ [] =
    between_is (set m n e) a (n + 1) ∙ (ap (drop a) (take_more_set m n e lt) ∙ drop-append-le a (take n m) (e ∷ []) fits) in
    let ys_is : ys ≡ e ∷ drop a (take n m) = is ∙ last_first (drop a (take n m)) e _ part in
    let front : take a (set m n e) ≡ take a (take n m) = take-set-le a m n e le ∙ sym (take-take a n m le) in
    let at : a + (n + 1 - a) ≡ n + 1 = omega arith in
    let rest : drop (n + 1 - a) (drop a (set m n e)) ≡ drop (n + 1) m =
    drop-drop (n + 1 - a) a (set m n e) ∙ (ap (λ k. drop k (set m n e)) at ∙ drop-set-lt (n + 1) m n e (omega arith)) in
    rw (front, ys_is, rest) (sym (append_assoc (take a (take n m)) (e ∷ drop a (take n m)) (drop (n + 1) m)))

-- the first of a part goes to its end
pub first_last : {X : Type 0} (m : List X) (n a : ℕ) (d : X) (ys : List X) → a < n → n ≤ length m
    → ys ≡ drop 1 (between a n m) ++ take 1 (between a n m)
    → put_mid a (n - a) m ys ≡ remove (take n m) a ++ get_or m a d ∷ drop n m
first_last m n a d ys lt le is =
    let len : length (take n m) ≡ n = length-take-le n m le in
    let fits : a < length (take n m) = omega arith in
    let part : between a n m ≡ get_or (take n m) a d ∷ drop (a + 1) (take n m) =
    between_is m a n ∙ drop_more (take n m) a d fits in
    let ys_is : ys ≡ drop (a + 1) (take n m) ++ get_or m a d ∷ [] =
    is ∙ (rw (part, get_or-take n m a d lt) refl) in
    let front : take a m ≡ take a (take n m) = sym (take-take a n m (omega arith)) in
    let at : a + (n - a) ≡ n = omega arith in
    let rest : drop (n - a) (drop a m) ≡ drop n m = drop-drop (n - a) a m ∙ ap (λ k. drop k m) at in
    rw (front, ys_is, rest)
    (simp (append_assoc, sym (add-one a)) refl)
