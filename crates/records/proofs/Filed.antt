-- The streams with a newcomer in its place: the order, the lines and the numbers are kept.
use Rattle.std.proofs.Common.{◌≡◌, ℕ, ◌+◌, ◌<◌, true, false, not, eqb, ltb, List, [], ◌∷◌, ◌++◌, length, take, drop, refl, ap, ◌∙◌, ⊎_elim, arith}
use Rattle.std.proofs.lemmas.List.Edits.{length-insert}
use Rattle.std.proofs.lemmas.List.{take-append-drop}
use Rattle.std.proofs.lemmas.List.Sums.{prefix_len-le-length}
use Rattle.std.proofs.lemmas.Bool.{and_from, and_parts, cases_Bool, eqb-false, le-leb, lt-ltb, ltb-false, ltb-true, not-true}
use Rattle.std.specs.List.{insert}
use Rattle.figures.specs.declared.racks.Rack.{Rack}
use Rattle.figures.specs.declared.streams.Stream.{Stream}
use Rattle.figures.specs.Tables.{all_placed, falls_under, placed, table_kept}
use Rattle.figures.proofs.TableFacts.{are_placed, falls, rack_is_kept}
use Rattle.records.specs.Lists.{filed, lacks, number_at, numbers_differ, place, priority_at}
use Rattle.records.proofs.Differ.{differ_with, found_nowhere}
use Rattle.records.proofs.Fronts.{front_ends, front_on, front_whole}

module _ {K : Type 0} (s : Stream K) where
  pub filed_split : (xs : List (Stream K))
      → filed s xs ≡ take (place s.priority xs) xs ++ s ∷ drop (place s.priority xs) xs
  filed_split xs = refl

  pub filed_length : (xs : List (Stream K)) → length (filed s xs) ≡ length xs + 1
  filed_length xs =
      length-insert xs (place s.priority xs) s (prefix_len-le-length (λ x. ltb s.priority x.priority) xs)

  -- s goes behind a stream above it
  filed_behind : (x : Stream K) (xs : List (Stream K)) → ltb s.priority x.priority ≡ true
      → filed s (x ∷ xs) ≡ x ∷ filed s xs
  filed_behind x xs e =
      ap (λ k. insert (x ∷ xs) k s) (front_on (λ y. ltb s.priority y.priority) x xs e)

  -- and before any other
  filed_before : (x : Stream K) (xs : List (Stream K)) → ltb s.priority x.priority ≡ false
      → filed s (x ∷ xs) ≡ s ∷ x ∷ xs
  filed_before x xs e =
      ap (λ k. insert (x ∷ xs) k s) (front_ends (λ y. ltb s.priority y.priority) x xs e)

  filed_falls : (high : ℕ) (xs : List (Stream K)) → s.priority < high → falls_under high xs ≡ true
      → priority_at s.priority xs ≡ length xs → falls_under high (filed s xs) ≡ true
  filed_falls high [] l h free = and_from _ _ (lt-ltb _ _ l) refl
  filed_falls high (x ∷ xs) l h free =
      let o = and_parts (ltb x.priority high) (falls_under x.priority xs) h in
      let w = front_whole (λ y. not (eqb y.priority s.priority)) x xs free in
      let other = eqb-false _ _ (not-true _ w.0) in
      ⊎_elim
      (λ e.
      ap (falls_under high) (filed_behind x xs e)
      ∙ and_from _ _ o.0 (filed_falls x.priority xs (ltb-true _ _ e) o.1 w.1))
      (λ e.
      ap (falls_under high) (filed_before x xs e)
      ∙ and_from _ _ (lt-ltb _ _ l)
      (and_from _ _ (lt-ltb _ _ (omega (arith, other, ltb-false _ _ e))) o.1))
      (cases_Bool (ltb s.priority x.priority))

  placed_with : (rack : Rack) (xs ys : List (Stream K)) → placed rack s ≡ true → all_placed rack (xs ++ ys) ≡ true
      → all_placed rack (xs ++ s ∷ ys) ≡ true
  placed_with rack [] ys p h = and_from _ _ p h
  placed_with rack (x ∷ xs) ys p h =
      let o = and_parts (placed rack x) (all_placed rack (xs ++ ys)) h in
      and_from _ _ o.0 (placed_with rack xs ys p o.1)

  pub filed_kept : (rack : Rack) (xs : List (Stream K)) → table_kept rack xs ≡ true → length xs < 64
      → placed rack s ≡ true → s.priority < 256 → priority_at s.priority xs ≡ length xs
      → table_kept rack (filed s xs) ≡ true
  filed_kept rack xs kept few on low free =
      let at = place s.priority xs in
      let whole : all_placed rack (take at xs ++ drop at xs) ≡ true =
      ap (all_placed rack) (take-append-drop at xs) ∙ are_placed rack xs kept in
      and_from _ _ (rack_is_kept rack xs kept)
      (and_from _ _ (le-leb _ _ (omega (arith, filed_length xs)))
      (and_from _ _ (filed_falls 256 xs low (falls rack xs kept) free)
      (placed_with rack (take at xs) (drop at xs) on whole)))

  pub filed_differ : (xs : List (Stream K)) → numbers_differ xs ≡ true → number_at s.number xs ≡ length xs
      → numbers_differ (filed s xs) ≡ true
  filed_differ xs differ free =
      let at = place s.priority xs in
      differ_with (drop at xs) s (take at xs)
      (ap (lacks s.number) (take-append-drop at xs) ∙ found_nowhere s.number xs free)
      (ap numbers_differ (take-append-drop at xs) ∙ differ)
