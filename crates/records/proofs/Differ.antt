-- Streams whose numbers differ: with one more, with one fewer, and that a number names one stream.
use Rattle.std.proofs.Common.{◌≡◌, ℕ, true, not, eqb, List, [], ◌∷◌, ◌++◌, length, sym, refl, ap, ◌∙◌, ⊎_elim}
use Rattle.std.proofs.lemmas.Bool.{and_from, and_parts, eqb-false, ne_eqb, not_from_false, not-true}
use Rattle.figures.specs.declared.streams.Stream.{Stream}
use Rattle.figures.specs.Tables.{◌∈◌}
use Rattle.records.specs.Lists.{lacks, number_at, numbers_differ}
use Rattle.records.proofs.Fronts.{front_whole}

-- a number that is found nowhere is lacking
pub found_nowhere : {K : Type 0} (n : ℕ) (xs : List (Stream K)) → number_at n xs ≡ length xs → lacks n xs ≡ true
found_nowhere n [] h = refl
found_nowhere n (x ∷ xs) h =
    let w = front_whole (λ y. not (eqb y.number n)) x xs h in and_from _ _ w.0 (found_nowhere n xs w.1)

-- a number that a list lacks is of no stream of it
pub lacking : {K : Type 0} (n : ℕ) (xs : List (Stream K)) → lacks n xs ≡ true → (z : Stream K) → z ∈ xs → z.number ≡ n
    → ⊥
lacking n [] h z m e = absurd m
lacking n (x ∷ xs) h z m e =
    let o = and_parts (not (eqb x.number n)) (lacks n xs) h in
    ⊎_elim (λ a. eqb-false _ _ (not-true _ o.0) (sym (ap (λ y. y.number) a) ∙ e)) (λ a. lacking n xs o.1 z a e) m

pub differ_distinct : {K : Type 0} (xs : List (Stream K)) → numbers_differ xs ≡ true → (s z : Stream K) → s ∈ xs
    → z ∈ xs → s.number ≡ z.number → s ≡ z
differ_distinct [] h s z a b e = absurd a
differ_distinct (x ∷ xs) h s z a b e =
    let o = and_parts (lacks x.number xs) (numbers_differ xs) h in
    ⊎_elim
    (λ a0. ⊎_elim (λ b0. a0 ∙ sym b0)
    (λ b1. absurd (lacking x.number xs o.0 z b1 (sym e ∙ ap (λ y. y.number) a0))) b)
    (λ a1. ⊎_elim (λ b0. absurd (lacking x.number xs o.0 s a1 (e ∙ ap (λ y. y.number) b0)))
    (λ b1. differ_distinct xs o.1 s z a1 b1 e) b)
    a

module _ {K : Type 0} (ys : List (Stream K)) (s : Stream K) where
  lacks_with : (n : ℕ) (xs : List (Stream K)) → (s.number ≡ n → ⊥) → lacks n (xs ++ ys) ≡ true
      → lacks n (xs ++ s ∷ ys) ≡ true
  lacks_with n [] ne h = and_from _ _ (not_from_false _ (ne_eqb _ _ ne)) h
  lacks_with n (x ∷ xs) ne h =
      let o = and_parts (not (eqb x.number n)) (lacks n (xs ++ ys)) h in
      and_from _ _ o.0 (lacks_with n xs ne o.1)

  lacks_without : (n : ℕ) (xs : List (Stream K)) → lacks n (xs ++ s ∷ ys) ≡ true → lacks n (xs ++ ys) ≡ true
  lacks_without n [] h = (and_parts (not (eqb s.number n)) (lacks n ys) h).1
  lacks_without n (x ∷ xs) h =
      let o = and_parts (not (eqb x.number n)) (lacks n (xs ++ s ∷ ys)) h in
      and_from _ _ o.0 (lacks_without n xs o.1)

  pub differ_with : (xs : List (Stream K)) → lacks s.number (xs ++ ys) ≡ true → numbers_differ (xs ++ ys) ≡ true
      → numbers_differ (xs ++ s ∷ ys) ≡ true
  differ_with [] l h = and_from _ _ l h
  differ_with (x ∷ xs) l h =
      let o = and_parts (lacks x.number (xs ++ ys)) (numbers_differ (xs ++ ys)) h in
      let p = and_parts (not (eqb x.number s.number)) (lacks s.number (xs ++ ys)) l in
      and_from _ _ (lacks_with x.number xs (λ e. eqb-false _ _ (not-true _ p.0) (sym e)) o.0)
      (differ_with xs p.1 o.1)

  pub differ_without : (xs : List (Stream K)) → numbers_differ (xs ++ s ∷ ys) ≡ true → numbers_differ (xs ++ ys) ≡ true
  differ_without [] h = (and_parts (lacks s.number ys) (numbers_differ ys) h).1
  differ_without (x ∷ xs) h =
      let o = and_parts (lacks x.number (xs ++ s ∷ ys)) (numbers_differ (xs ++ s ∷ ys)) h in
      and_from _ _ (lacks_without x.number xs o.0) (differ_without xs o.1)
