-- Sums over a group of a table's streams, over any meaning α of their kinds.
use Rattle.std.proofs.Common.{◌≡◌, ℕ, ◌+◌, ◌<◌, ◌≤◌, min, cond, eqb, List, [], ◌∷◌, length, get_or, drop, Some, None, Option, sym, ap, ◌∙◌, arith}
use Rattle.std.proofs.lemmas.List.{drop_more, drop_all}
use Rattle.std.proofs.lemmas.Bool.{cond_both}
use Rattle.std.proofs.lemmas.Bool.Decides.{nat_tests}
use Rattle.arrivals.specs.Limits.{longest, most}
use Rattle.arrivals.specs.Quotients.{windowed_rises}
use Rattle.figures.specs.declared.groups.Group.{Group}
use Rattle.figures.specs.declared.streams.Stream.{Stream}
use Rattle.arrivals.specs.contracts.arrivals.Arrival.TheBound.{All}
use Rattle.ports.specs.Loads.{Rising, Lawful}
use Rattle.figures.specs.Sums.{in_group, seen, group_from, group_load}

module _ {K : Type 0} (α : K → ℕ → ℕ) (late : List (Option ℕ)) (group : Group) (w : ℕ) where
  abbrev pub share : ℕ → Stream K → ℕ
  share i s = cond (in_group group s) (seen α (get_or late i None) s.kind w) 0

  -- one stream more
  pub group_more : (es : List (Stream K)) (i : ℕ) (e : Stream K) → i < length es → e ≡ get_or es i e → group_from α late group w i (drop i es) ≡ share i e + group_from α late group w (i + 1) (drop (i + 1) es)
  group_more es i e h read =
      ap (group_from α late group w i) (drop_more es i e h)
      ∙ ap (λ x. share i x + group_from α late group w (i + 1) (drop (i + 1) es)) (sym read)

  pub group_all : (es : List (Stream K)) (i : ℕ) → length es ≤ i → group_from α late group w i (drop i es) ≡ 0
  group_all es i h = ap (group_from α late group w i) (drop_all i es h)

-- the laws of a kind, together
pub lawful : {K : _} {a : _} {d : _} → All K a d → Lawful a.alpha
lawful m = record { none = m.none; some = m.some; rises = m.rises; small = m.small }

module _ {K : Type 0} (α : K → ℕ → ℕ) (lawful : Lawful α) where
  pub seen_small : (late : Option ℕ) (k : K) (w : ℕ) → w ≤ longest → seen α late k w ≤ most
  seen_small None k w h = lawful.small k w h
  seen_small (Some by) k w h =
      let s = lawful.small k (min (w + by) longest) (omega arith) in
      cond_both (eqb w 0) 0 _ (λ a. a ≤ most) (λ e. omega arith) (λ e. s)

  pub seen_some : (late : Option ℕ) (k : K) → 1 ≤ seen α late k 1
  seen_some None k = lawful.some k
  seen_some (Some by) k =
      omega (arith, lawful.some k, lawful.rises k 1 (min (1 + by) longest) (omega arith) (omega arith))

  pub seen_rises : (late : Option ℕ) (k : K) → Rising (seen α late k)
  seen_rises None k v w h long = lawful.rises k v w h long
  seen_rises (Some by) k v w h long =
      windowed_rises _ _ v w h (lawful.rises k (min (v + by) longest) (min (w + by) longest) (omega arith) (omega arith))

  share_rises : (late : List (Option ℕ)) (group : Group) (i : ℕ) (s : Stream K) (v w : ℕ) → v ≤ w → w ≤ longest → share α late group v i s ≤ share α late group w i s
  share_rises late group i s v w h long =
      let r = seen_rises (get_or late i None) s.kind v w h long in grind (arith, nat_tests)

  group_from_rises : (late : List (Option ℕ)) (group : Group) (v w : ℕ) → v ≤ w → w ≤ longest → (i : ℕ) (es : List (Stream K)) → group_from α late group v i es ≤ group_from α late group w i es
  group_from_rises late group v w h long i [] = omega arith
  group_from_rises late group v w h long i (s ∷ ss) =
      omega (arith, share_rises late group i s v w h long, group_from_rises late group v w h long (i + 1) ss)

  pub group_rises : (late : List (Option ℕ)) (es : List (Stream K)) (group : Group) → Rising (group_load α late es group)
  group_rises late es group v w h long = group_from_rises late group v w h long 0 es
