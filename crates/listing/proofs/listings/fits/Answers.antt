use Rattle.std.proofs.Common.{◌≡◌, ℕ, ◌+◌, ◌*◌, ◌<◌, ◌≤◌, true, List, [], ◌∷◌, length, length-append, nat_le, Some, None, Option, Bor, rules, arith, sym, refl, ap, ◌∙◌}
use Rattle.std.specs.Option.{MatchOption}
use Rattle.std.specs.List.{flat_map}
use Rattle.std.proofs.lemmas.Fn.{chained_keeps}
use Rattle.std.proofs.lemmas.Iterator.{YieldsList-from_slice}
use Rattle.std.proofs.lemmas.Iterator.Consumers.{YieldsList-so_far, YieldsList-turn, YieldsList-end}
use Rattle.std.proofs.lemmas.List.{flat_map_more}
use Rattle.std.proofs.lemmas.List.Folds.{flat_map-map, length-flat_map-take}
use borrow.Author.Tests.{tests}
use Rattle.listing.specs.declared.entries.Entry.{Entry}
use Rattle.listing.specs.Text.{line_text, listing_text}
use Rattle.listing.proofs.listings.fits.Goals as goal

abbrev text : Bor Entry → List ℕ
text y = line_text y.now

-- what is left after some lines
abbrev Left : ℕ → List (Bor Entry) → Unit {0} × ℕ → Type 0
Left bytes ys p = (length (flat_map text ys) + p.1 ≡ bytes) × (bytes ≤ p.1 + 90 * length ys)

cases : {X : Type 0} (o : Option X) {A C G : Type 0} {B D : X → Type 0} → MatchOption o A B → MatchOption o C D
    → (A → C → o ≡ None → G) → ((x : X) → B x → D x → o ≡ Some x → G) → G
cases None a c none some = none a c refl
cases (Some x) b d none some = some x b d refl

told : (c : goal.After-is_some) → (c.is_some.result ≡ nat_le (length (listing_text c.args.entries.now)) c.args.bytes)
    × (90 * length c.args.entries.now ≤ c.args.bytes → c.is_some.result ≡ true)
told c =
    let (xs, o, f, left, (t, yields, last), folds, how) = c.try_fold.ensures.ran in
    let j = chained_keeps _ (Left c.args.bytes) (λ ys q x v j (w, called, is).
    let h : (v.1 + length (line_text x.now) ≡ q.1) × (length (line_text x.now) ≤ 90) = search (rules, tests) in
    let e = ap length (sym (flat_map_more text [] ys x)) ∙ length-append (flat_map text ys) (text x) in
    let k = length-append ys (x ∷ []) in (omega arith, omega arith)) xs _ _ (omega arith, omega arith) folds in
    let all = YieldsList-from_slice c.args.entries.now cc in
    cases o how last
    (λ result end none.
    let e = YieldsList-end all xs t yields o _ none last in
    let k = ap length (sym (flat_map-map line_text (λ y. y.now) xs) ∙ ap listing_text e.0) in
    let h : length (listing_text c.args.entries.now) ≤ c.args.bytes = omega arith in search rules)
    (λ x (w, u, v, called, is, result) turn some.
    let h : (left < length (line_text x.now)) × (length (line_text x.now) ≤ 90) = search (rules, tests) in
    let e = YieldsList-turn all xs t yields o _ x some last in
    let s = YieldsList-so_far all xs t yields in
    let m = length-flat_map-take line_text c.args.entries.now (length xs) x.now e.0 in
    let k = ap length (sym (flat_map-map line_text (λ y. y.now) xs) ∙ ap listing_text s) in
    let g = ap (λ y. length (line_text y)) e.1 in
    let long : c.args.bytes < length (listing_text c.args.entries.now) = omega arith in
    let b = j.1 in
    (search rules, λ roomy. absurd (omega arith)))

pub returns-clause-value : goal.returns-clause-value
returns-clause-value c = (told c).0

pub returns-clause-roomy : goal.returns-clause-roomy
returns-clause-roomy c = (told c).1
