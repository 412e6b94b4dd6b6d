-- What every table keeps, one by one.
use Rattle.std.proofs.Common.{◌≡◌, ℕ, ◌+◌, ◌<◌, ◌≤◌, true, false, ◌&&◌, ltb, leb, List, [], ◌∷◌, ◌++◌, append_assoc, append-nil, length, map, get_or, take, drop, Bor, sym, refl, ap, ◌∙◌, inl, inr, arith}
use Rattle.std.proofs.lemmas.Bool.{and_parts, leb-true, ltb-true}
use Rattle.std.proofs.lemmas.List.{map_push, take-append-drop}
use Rattle.std.specs.List.{list_all}
use Rattle.figures.specs.declared.racks.Rack.{Rack}
use Rattle.figures.specs.declared.streams.Stream.{Stream}
use Rattle.figures.specs.Limits.{most_streams}
use Rattle.figures.specs.Racks.{rack_kept}
use Rattle.figures.specs.Tables.{◌∈◌, falls_under, placed, all_placed, table_kept}
use Rattle.figures.proofs.Items.{drop_item}

-- priorities that fall under a limit are below it
pub all_under : {K : Type 0} (high : ℕ) (table : List (Stream K)) → falls_under high table ≡ true → (z : Stream K) → z ∈ table → z.priority < high
all_under high [] h z m = absurd m
all_under high (s ∷ ss) h z (inl e) =
    omega (arith, ltb-true s.priority high (and_parts (ltb s.priority high) (falls_under s.priority ss) h).0, ap (λ y. y.priority) e)
all_under high (s ∷ ss) h z (inr m) =
    let o = and_parts (ltb s.priority high) (falls_under s.priority ss) h in
    omega (arith, ltb-true s.priority high o.0, all_under s.priority ss o.1 z m)

-- the streams are placed where each is
pub each_placed : {K : Type 0} (rack : Rack) (table : List (Stream K)) → list_all (placed rack) table ≡ all_placed rack table
each_placed rack [] = refl
each_placed rack (s ∷ ss) = ap (λ b. placed rack s && b) (each_placed rack ss)

module _ {K : Type 0} (rack : Rack) (table : List (Stream K)) (kept : table_kept rack table ≡ true) where
  pub rack_is_kept : rack_kept rack ≡ true
  rack_is_kept = (and_parts (rack_kept rack) (leb (length table) most_streams && (falls_under 256 table && all_placed rack table)) kept).0

  rest : leb (length table) most_streams && (falls_under 256 table && all_placed rack table) ≡ true
  rest = (and_parts (rack_kept rack) (leb (length table) most_streams && (falls_under 256 table && all_placed rack table)) kept).1

  pub few : length table ≤ most_streams
  few = leb-true (length table) most_streams (and_parts (leb (length table) most_streams) (falls_under 256 table && all_placed rack table) rest).0

  pub falls : falls_under 256 table ≡ true
  falls = (and_parts (falls_under 256 table) (all_placed rack table) (and_parts (leb (length table) most_streams) (falls_under 256 table && all_placed rack table) rest).1).0

  pub are_placed : all_placed rack table ≡ true
  are_placed = (and_parts (falls_under 256 table) (all_placed rack table) (and_parts (leb (length table) most_streams) (falls_under 256 table && all_placed rack table) rest).1).1

-- the priorities of these streams fall to `high`: what comes after them has to fall under that
abbrev pub FallsTo : {K : Type 0} → List (Bor (Stream K)) → ℕ → Type 0
FallsTo {K} before high =
    (after : List (Stream K)) → falls_under 256 (map (λ s. s.now) before ++ after) ≡ falls_under high after

module _ {K : Type 0} (before : List (Bor (Stream K))) (high : ℕ) (so_far : FallsTo before high) where
  pub falls_more : (s : Bor (Stream K)) (next : ℕ) → ltb s.now.priority high ≡ true → next ≡ s.now.priority → FallsTo (before ++ (s ∷ [])) next
  falls_more s next falls is after =
      ap (λ l. falls_under 256 (l ++ after)) (map_push (λ z. z.now) before s)
      ∙ ap (falls_under 256) (append_assoc (map (λ z. z.now) before) (s.now ∷ []) after) ∙ so_far (s.now ∷ after)
      ∙ ap (λ b. b && falls_under s.now.priority after) falls
      ∙ ap (λ n. falls_under n after) (sym is)

  pub falls_all : (table : List (Stream K)) → map (λ s. s.now) before ≡ table → falls_under 256 table ≡ true
  falls_all table all =
      ap (falls_under 256) (sym (append-nil (map (λ s. s.now) before) ∙ all)) ∙ so_far []

  pub falls_not : (table : List (Stream K)) → map (λ s. s.now) before ≡ take (length before) table → length before < length table
      → (s : Stream K) → s ≡ get_or table (length before) s → ltb s.priority high ≡ false → falls_under 256 table ≡ false
  falls_not table front less s read not =
      let i = length before in
      ap (falls_under 256) (sym (take-append-drop i table))
      ∙ ap (λ l. falls_under 256 (l ++ drop i table)) (sym front) ∙ so_far (drop i table)
      ∙ ap (falls_under high) (drop_item table i s less read)
      ∙ ap (λ b. b && falls_under s.priority (drop (i + 1) table)) not
