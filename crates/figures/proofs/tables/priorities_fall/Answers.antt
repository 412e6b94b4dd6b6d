use Rattle.std.proofs.Common.{◌≡◌, true, false, ltb, Some, None, Option, rules, sym, refl, ap, ◌∙◌}
use Rattle.std.specs.Option.{MatchOption, is_some}
use Rattle.std.proofs.lemmas.Fn.{chained_keeps}
use Rattle.std.proofs.lemmas.Iterator.{YieldsList-from_slice}
use Rattle.std.proofs.lemmas.Iterator.Consumers.{YieldsList-so_far, YieldsList-turn, YieldsList-end}
use borrow.Author.Tests.{tests}
use Rattle.figures.proofs.TableFacts.{FallsTo, falls_more, falls_all, falls_not}
use Rattle.figures.proofs.tables.priorities_fall.Goals as goal

cases : {X : Type 0} (o : Option X) {A C G : Type 0} {B D : X → Type 0} → MatchOption o A B → MatchOption o C D
    → (A → C → o ≡ None → G) → ((x : X) → B x → D x → o ≡ Some x → G) → G
cases None a c none some = none a c refl
cases (Some x) b d none some = some x b d refl

pub returns : goal.returns
returns g c =
    let (xs, o, f, left, (t, yields, last), folds, how) = c.try_fold.ensures.ran in
    let table = c.args.streams.now in
    let so_far = chained_keeps _ (λ ys p. FallsTo ys p.1)
    (λ ys q x v j (w, called, is).
    let h : (ltb x.now.priority q.1 ≡ true) × (v.1 ≡ x.now.priority) = search (rules, tests) in
    falls_more ys q.1 j x v.1 h.0 h.1)
    xs _ _ (λ after. refl) folds in
    cases o how last
    (λ result end none.
    c.is_some.ensures ∙ ap is_some result
    ∙ sym (falls_all xs left so_far table (YieldsList-end (YieldsList-from_slice table cc) xs t yields o _ none last).0))
    (λ x (w, u, v, called, is, result) turn some.
    let h : ltb x.now.priority left ≡ false = search (rules, tests) in
    let all = YieldsList-from_slice table cc in
    let e = YieldsList-turn all xs t yields o _ x some last in
    c.is_some.ensures ∙ ap is_some result
    ∙ sym (falls_not xs left so_far table (YieldsList-so_far all xs t yields) e.0 x.now e.1 h))
