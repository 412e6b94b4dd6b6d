-- Texts that are laid at the start of a buffer, one behind the other.
use Rattle.std.proofs.Common.{◌≡◌, ℕ, ◌+◌, ◌-◌, ◌≤◌, List, [], ◌++◌, length, take, drop, sym, ap, ◌∙◌, append_assoc, append-nil, arith, length-append, length-drop, drop-drop, take_at, drop_at}
use borrow.Rule.Slice.PartMut.{put_mid}
use Rattle.std.proofs.lemmas.List.{take_rest, drop_all}
use Rattle.listing.specs.Laid.{laid}

-- so far a text is laid in xs, and `out` is what came of it
pub record Begun (xs text out : List ℕ) (end : ℕ) : Type 0 where
  pub holds : out ≡ laid text xs
  pub ends : end ≡ length text
  pub within : end ≤ length xs

-- a text is laid at the end of what is laid so far
pub laid_more : (xs t u l m : List ℕ) (n : ℕ) → Begun xs t l n → m ≡ laid u (take (length l - n) (drop n l)) → length t + length u ≤ length xs
    → put_mid n (length l - n) l m ≡ laid (t ++ u) xs
laid_more xs t u l m n b second fits =
    let f : take n l ≡ t = ap (take n) b.holds ∙ take_at t (drop (length t) xs) n (sym b.ends) in
    let d : drop n l ≡ drop (length t) xs = ap (drop n) b.holds ∙ drop_at t (drop (length t) xs) n (sym b.ends) in
    let w : m ≡ u ++ drop (length t + length u) xs =
    second ∙ ap (λ q. u ++ drop (length u) q) (take_rest l n ∙ d) ∙ ap (λ q. u ++ q) (drop-drop (length u) (length t) xs) in
    let z : drop (length l - n) (drop n l) ≡ [] = drop_all (length l - n) (drop n l) (simp length-drop (omega arith)) in
    rw (f, w, z) (simp (append-nil, append_assoc, length-append))

pub begun_more : (xs t u l m : List ℕ) (n k : ℕ) → Begun xs t l n → m ≡ laid u (take (length l - n) (drop n l)) → k ≡ length u → length t + length u ≤ length xs
    → Begun xs (t ++ u) (put_mid n (length l - n) l m) (n + k)
begun_more xs t u l m n k b second is fits =
    record { holds = laid_more xs t u l m n b second fits; ends = simp length-append (omega arith); within = omega arith }
