-- Walking and joining undo each other.
use Rattle.std.proofs.Common.{◌≡◌, ℕ, zero, suc, ◌+◌, ◌/◌, ◌%◌, ◌<◌, ◌≤◌, Bool, true, false, cond, leb, List, [], ◌∷◌, ◌++◌, length, take, drop, sym, refl, ap, ◌∙◌, subst, arith, length-append, take-append-drop, rules, leb-true}
use Rattle.std.proofs.lemmas.List.{length-take-le}
use lib.Seq.{take-append_seam, drop-append_seam}
use Rattle.wire.specs.Bytes.{be}
use Rattle.wire.specs.Walks.{end, cut, piece, step_of, framed, joined, PlacedFrom, Walk, AllBytes, AllFit, WalkJoins}

-- the parts of a record that was met
pub record Parts (at : ℕ) (bytes : List ℕ) (place : ℕ) (front left : List ℕ) : Type 0 where
  pub high : ℕ
  pub low : ℕ
  pub rest : List ℕ
  pub is : bytes ≡ high ∷ low ∷ rest
  pub here : place ≡ at
  pub fits : be (high ∷ low ∷ []) ≤ length rest
  pub fore : front ≡ take (be (high ∷ low ∷ [])) rest
  pub aft : left ≡ drop (be (high ∷ low ∷ [])) rest

pub never : {P : Type 0} → ◌≡◌ {A = ℕ} 0 1 → P
never z = let b : ⊥ = omega arith in absurd b

parts_if : (t : Bool) (at place n : ℕ) (rest front left : List ℕ) → cond t (piece at (take n rest) (drop n rest)) (cut at) ≡ piece place front left
    → (t ≡ true) × (place ≡ at) × (front ≡ take n rest) × (left ≡ drop n rest)
parts_if true at place n rest front left e = (refl, cc, cc, cc)
parts_if false at place n rest front left e = never (cc)

pub parts : (at place : ℕ) (bytes front left : List ℕ) → step_of at bytes ≡ piece place front left → Parts at bytes place front left
parts at place [] front left e = never (cc)
parts at place (a ∷ []) front left e = never (cc)
parts at place (a ∷ b ∷ rest) front left e =
    let p = parts_if (leb (be (a ∷ b ∷ [])) (length rest)) at place (be (a ∷ b ∷ [])) rest front left e in
    record { high = a; low = b; rest = rest; is = refl; here = p.1; fits = leb-true _ _ p.0; fore = p.2; aft = p.3 }

empty_if : (t : Bool) (at n : ℕ) (rest : List ℕ) → cond t (piece at (take n rest) (drop n rest)) (cut at) ≡ end → ⊥
empty_if true at n rest e = never (cc)
empty_if false at n rest e = never (cc)

empty : (at : ℕ) (bytes : List ℕ) → step_of at bytes ≡ end → bytes ≡ []
empty at [] e = refl
empty at (a ∷ []) e = never (cc)
empty at (a ∷ b ∷ rest) e = let z : ⊥ = empty_if (leb (be (a ∷ b ∷ [])) (length rest)) at (be (a ∷ b ∷ [])) rest e in absurd z

frames : (a b : ℕ) (rest front left : List ℕ) → a < 256 → b < 256 → be (a ∷ b ∷ []) ≤ length rest → front ≡ take (be (a ∷ b ∷ [])) rest → left ≡ drop (be (a ∷ b ∷ [])) rest
    → a ∷ b ∷ rest ≡ framed front ++ left
frames a b rest front left high low h f l =
    let n : length front ≡ be (a ∷ b ∷ []) = ap length f ∙ length-take-le _ _ h in
    let q : length front / 256 ≡ a = omega arith in
    let m : length front % 256 ≡ b = omega arith in
    let r : front ++ left ≡ rest = rw (f, l) (take-append-drop (be (a ∷ b ∷ [])) rest) in
    cc

all_after : (n : ℕ) (bytes : List ℕ) → AllBytes bytes → AllBytes (drop n bytes)
all_after zero bytes all = all
all_after (suc n) [] all = tt
all_after (suc n) (b ∷ bs) all = all_after n bs all.1

all_before : (n : ℕ) (bytes : List ℕ) → AllBytes bytes → AllBytes (take n bytes)
all_before zero bytes all = tt
all_before (suc n) [] all = tt
all_before (suc n) (b ∷ bs) all = (all.0, all_before n bs all.1)

all_both : (xs ys : List ℕ) → AllBytes xs → AllBytes ys → AllBytes (xs ++ ys)
all_both [] ys all more = more
all_both (x ∷ xs) ys all more = (all.0, all_both xs ys all.1 more)

back : (at : ℕ) (bytes : List ℕ) (records : List (ℕ × List ℕ)) → AllBytes bytes → Walk at bytes records → bytes ≡ joined records
back at bytes [] all walk = empty at bytes walk
back at bytes (r ∷ rs) all walk =
    let p = parts at r.0 bytes r.1 walk.0 walk.1 in
    let each : AllBytes (p.high ∷ p.low ∷ p.rest) = subst AllBytes p.is all in
    let left : AllBytes walk.0 = rw p.aft (all_after (be (p.high ∷ p.low ∷ [])) p.rest each.1.1) in
    p.is
    ∙ frames p.high p.low p.rest r.1 walk.0 each.0 each.1.0 p.fits p.fore p.aft
    ∙ ap (λ t. framed r.1 ++ t) (back (r.0 + 2 + length r.1) walk.0 rs left walk.2)

fit : (at : ℕ) (bytes : List ℕ) (records : List (ℕ × List ℕ)) → AllBytes bytes → Walk at bytes records → AllFit records
fit at bytes [] all walk = tt
fit at bytes (r ∷ rs) all walk =
    let p = parts at r.0 bytes r.1 walk.0 walk.1 in
    let each : AllBytes (p.high ∷ p.low ∷ p.rest) = subst AllBytes p.is all in
    let high : p.high < 256 = each.0 in
    let low : p.low < 256 = each.1.0 in
    let n : length r.1 ≡ be (p.high ∷ p.low ∷ []) = ap length p.fore ∙ length-take-le _ _ p.fits in
    let left : AllBytes walk.0 = rw p.aft (all_after (be (p.high ∷ p.low ∷ [])) p.rest each.1.1) in
    let short : length r.1 < 65536 = omega arith in
    let front : AllBytes r.1 = rw p.fore (all_before (be (p.high ∷ p.low ∷ [])) p.rest each.1.1) in
    (short, front, fit (r.0 + 2 + length r.1) walk.0 rs left walk.2)

bytes : (records : List (ℕ × List ℕ)) → AllFit records → AllBytes (joined records)
bytes [] fits = tt
bytes (r ∷ rs) fits =
    let short : length r.1 < 65536 = fits.0 in
    let high : length r.1 / 256 < 256 = omega arith in
    let low : length r.1 % 256 < 256 = omega arith in
    (high, (low, all_both r.1 (joined rs) fits.1 (bytes rs fits.2)))

places : (at : ℕ) (bytes : List ℕ) (records : List (ℕ × List ℕ)) → Walk at bytes records → PlacedFrom at records
places at bytes [] walk = tt
places at bytes (r ∷ rs) walk =
    let p = parts at r.0 bytes r.1 walk.0 walk.1 in
    (p.here, rw p.here at (places (r.0 + 2 + length r.1) walk.0 rs walk.2))

steps : (at : ℕ) (front left : List ℕ) → step_of at (framed front ++ left) ≡ piece at front left
steps at front left =
    let n : be (length front / 256 ∷ length front % 256 ∷ []) ≡ length front = omega arith in
    let l : length front ≤ length (front ++ left) = simp length-append (omega arith) in
    let t : leb (length front) (length (front ++ left)) ≡ true = search rules in
    rw (n, t, take-append_seam front left, drop-append_seam front left)

forth : (at : ℕ) (records : List (ℕ × List ℕ)) → PlacedFrom at records → Walk at (joined records) records
forth at [] placed = refl
forth at (r ∷ rs) placed =
    let e : r.0 ≡ at = placed.0 in (
      joined rs,
      steps at r.1 (joined rs) ∙ ap (λ p. piece p r.1 (joined rs)) (sym e),
      rw e (forth (at + 2 + length r.1) rs placed.1),
    )

same_pair : (r s : ℕ × List ℕ) → s.0 ≡ r.0 → s.1 ≡ r.1 → r ≡ s
same_pair (x, xs) (y, ys) a b = cc

alone : (at : ℕ) (bytes : List ℕ) (records others : List (ℕ × List ℕ)) → Walk at bytes records → Walk at bytes others → records ≡ others
alone at bytes [] [] v w = refl
alone at bytes [] (s ∷ ss) v w = never (let e : end ≡ piece s.0 s.1 w.0 = sym v ∙ w.1 in cc)
alone at bytes (r ∷ rs) [] v w = never (let e : end ≡ piece r.0 r.1 v.0 = sym w ∙ v.1 in cc)
alone at bytes (r ∷ rs) (s ∷ ss) v w =
    let e : piece r.0 r.1 v.0 ≡ piece s.0 s.1 w.0 = sym v.1 ∙ w.1 in
    let a : s.0 ≡ r.0 = cc in
    let b : s.1 ≡ r.1 = cc in
    let l : w.0 ≡ v.0 = cc in
    let others : Walk (r.0 + 2 + length r.1) v.0 ss = rw (a, b, l) at w.2 in
    let i = alone (r.0 + 2 + length r.1) v.0 rs ss v.2 others in
    let one = same_pair r s a b in
    cc (i, one)

pub walk_joins : WalkJoins
walk_joins = record { back = back; places = places; fit = fit; bytes = bytes; forth = forth; alone = alone }
