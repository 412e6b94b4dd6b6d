-- The streams without the one of a number: the order, the lines and the numbers are kept.
use Rattle.std.proofs.Common.{◌≡◌, ℕ, ◌+◌, ◌<◌, true, not, eqb, List, [], ◌∷◌, ◌++◌, length, get_or, take, drop, sym, ap, ◌∙◌, add-one, arith}
use Rattle.std.proofs.lemmas.List.Edits.{length-remove}
use Rattle.std.proofs.lemmas.List.{drop_more, take-append-drop}
use Rattle.std.proofs.lemmas.Bool.{eqb-true, not-false}
use Rattle.figures.specs.declared.racks.Rack.{Rack}
use Rattle.figures.specs.declared.streams.Stream.{Stream}
use Rattle.figures.specs.Tables.{table_kept}
use Rattle.runs.proofs.Withdrawn.{kept_without}
use Rattle.records.specs.Lists.{number_at, numbers_differ, withdrawn}
use Rattle.records.proofs.Differ.{differ_without}
use Rattle.records.proofs.Fronts.{stop}

first_of : {X : Type 0} (xs : List X) → 0 < length xs → X
first_of [] h = absurd (omega arith)
first_of (x ∷ xs) h = x

module _ {K : Type 0} (n : ℕ) (xs : List (Stream K)) (there : number_at n xs < length xs) where
  pub withdrawn_split : (d : Stream K)
      → (xs ≡ take (number_at n xs) xs ++ get_or xs (number_at n xs) d ∷ drop (number_at n xs + 1) xs)
      × (withdrawn n xs ≡ take (number_at n xs) xs ++ drop (number_at n xs + 1) xs)
      × ((get_or xs (number_at n xs) d).number ≡ n)
  withdrawn_split d =
      let at = number_at n xs in (
        sym (take-append-drop at xs) ∙ ap (λ ys. take at xs ++ ys) (drop_more xs at d there),
        ap (λ k. take at xs ++ drop k xs) (sym (add-one at)),
        eqb-true _ _ (not-false _ (stop (λ x. not (eqb x.number n)) xs d there)),
      )

  pub withdrawn_length : length (withdrawn n xs) + 1 ≡ length xs
  withdrawn_length = length-remove xs (number_at n xs) there

  -- a default that is never read
  any : Stream K
  any = first_of xs (omega arith)

  pub withdrawn_kept : (rack : Rack) → table_kept rack xs ≡ true → table_kept rack (withdrawn n xs) ≡ true
  withdrawn_kept rack kept =
      let p = withdrawn_split any in
      ap (table_kept rack) p.1
      ∙ kept_without rack (take (number_at n xs) xs) (drop (number_at n xs + 1) xs) (get_or xs (number_at n xs) any)
      (sym (ap (table_kept rack) p.0) ∙ kept)

  pub withdrawn_differ : numbers_differ xs ≡ true → numbers_differ (withdrawn n xs) ≡ true
  withdrawn_differ differ =
      let p = withdrawn_split any in
      ap numbers_differ p.1
      ∙ differ_without (drop (number_at n xs + 1) xs) (get_or xs (number_at n xs) any) (take (number_at n xs) xs)
      (sym (ap numbers_differ p.0) ∙ differ)
