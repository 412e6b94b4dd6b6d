-- A record that was put in and taken out again leaves the memory as it was.
use Rattle.std.proofs.Common.{◌≡◌, ℕ, ◌+◌, ◌<◌, ◌≤◌, List, [], ◌∷◌, ◌++◌, length, get_or, take, drop, set, sym, ap, ◌∙◌, append_assoc, add-one, arith}
use Rattle.std.proofs.lemmas.List.Edits.{length-insert}
use Rattle.std.proofs.lemmas.List.{drop_at, drop_more, length-append, length-take-le, set_at, take-append-drop, take_at}
use Rattle.std.specs.List.{insert, remove}

removed_inserted : {X : Type 0} (xs : List X) (a : ℕ) (e : X) → a ≤ length xs → remove (insert xs a e) a ≡ xs
removed_inserted xs a e le =
    let n : length (take a xs) ≡ a = length-take-le a xs le in
    let t : take a (insert xs a e) ≡ take a xs = take_at (take a xs) (e ∷ drop a xs) a n in
    let j : insert xs a e ≡ (take a xs ++ e ∷ []) ++ drop a xs = sym (append_assoc (take a xs) (e ∷ []) (drop a xs)) in
    let n' : length (take a xs ++ e ∷ []) ≡ a + 1 = omega (arith, length-append (take a xs) (e ∷ [])) in
    let d : drop (a + 1) (insert xs a e) ≡ drop a xs = ap (drop (a + 1)) j ∙ drop_at (take a xs ++ e ∷ []) (drop a xs) (a + 1) n' in
    ap (λ k. take a (insert xs a e) ++ drop k (insert xs a e)) (sym (add-one a))
    ∙ (ap (λ x. x ++ drop (a + 1) (insert xs a e)) t ∙ (ap (λ x. take a xs ++ x) d ∙ take-append-drop a xs))

-- m was the memory, n is what it is with the record in, and o what it is with the record out again
pub undone : {X : Type 0} (m n o : List X) (len a : ℕ) (e spare : X) → a ≤ len → len < length m
    → n ≡ insert (take len m) a e ++ drop (len + 1) m
    → o ≡ remove (take (len + 1) n) a ++ get_or n a e ∷ drop (len + 1) n
    → spare ≡ get_or m len spare
    → set o len spare ≡ m
undone m n o len a e spare le lt n-is o_is s-is =
    let xs = take len m in
    let xs_len : length xs ≡ len = length-take-le len m (omega arith) in
    let i_len : length (insert xs a e) ≡ len + 1 = length-insert xs a e (omega arith) ∙ ap (λ k. k + 1) xs_len in
    let t : take (len + 1) n ≡ insert xs a e = ap (take (len + 1)) n-is ∙ take_at (insert xs a e) _ (len + 1) i_len in
    let d : drop (len + 1) n ≡ drop (len + 1) m = ap (drop (len + 1)) n-is ∙ drop_at (insert xs a e) _ (len + 1) i_len in
    let r : remove (take (len + 1) n) a ≡ xs = ap (λ ys. remove ys a) t ∙ removed_inserted xs a e (omega arith) in
    let o_is' : o ≡ xs ++ get_or n a e ∷ drop (len + 1) m =
    o_is ∙ (ap (λ ys. ys ++ get_or n a e ∷ drop (len + 1) n) r ∙ ap (λ ys. xs ++ get_or n a e ∷ ys) d) in
    let back : drop len m ≡ spare ∷ drop (len + 1) m = drop_more m len spare lt ∙ ap (λ x. x ∷ drop (len + 1) m) (sym s-is) in
    ap (λ ys. set ys len spare) o_is'
    ∙ (set_at xs (get_or n a e) (drop (len + 1) m) spare len xs_len ∙ (ap (λ ys. xs ++ ys) (sym back) ∙ take-append-drop len m))
