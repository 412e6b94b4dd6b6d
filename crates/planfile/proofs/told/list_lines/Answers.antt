use Rattle.std.proofs.Common.{◌≡◌, ℕ, ◌+◌, ◌-◌, ◌<◌, List, [], ◌∷◌, ◌++◌, drop, get_or, None, Option, length, length-drop, drop-drop, ap, arith, sym, ◌∙◌, rules}
use Rattle.std.proofs.lemmas.List.{get_or-drop, length_push}
use Rattle.figures.specs.Racks.{line_at}
use Rattle.listing.specs.declared.entries.Entry.{Entry}
use Rattle.records.specs.Records.{state_of}
use Rattle.network.proofs.FiguresTold.{line_by_figures}
use Rattle.planfile.specs.Figures.{LinesListed, no_line}
use Rattle.planfile.specs.Kinds.{plan_alpha}
use Rattle.planfile.specs.Points.{noted}
use Rattle.planfile.proofs.FigureLines.{sound, absent_added, line_added, none_added}
use Rattle.planfile.proofs.told.list_lines.Goals as goal

-- one step over the needs
stepped : (needs rest rest' : List (Option ℕ)) (k : ℕ) (need : Option ℕ) → rest ≡ drop k needs → rest ≡ need ∷ rest' → length needs ≡ 16
    → (k < 16) × (get_or needs k None ≡ need) × (rest' ≡ drop (k + 1) needs)
stepped needs rest rest' k need before now sixteen =
    let d : drop k needs ≡ need ∷ rest' = sym before ∙ now in (
      omega (arith, ap length d, length-drop k needs),
      ap (λ j. get_or needs j None) (omega arith) ∙ sym (get_or-drop k needs 0 None) ∙ ap (λ xs. get_or xs 0 None) d,
      ap (drop 1) (sym d) ∙ drop-drop 1 k needs,
    )

pub loop-number-init : goal.loop-number-init
loop-number-init c =
    let one : c.into_iter-number-iterator.result.a.start ≡ 1 = search rules in
    rw one (
      none_added (LinesListed (state_of c.args.network.now.records) 1 _) (noted c.args.journal.now) no_line,
      omega arith,
      omega arith,
      omega arith,
      search rules,
    )

pub loop-number-preserved-in-Some-line : goal.loop-number-preserved-in-Some-line
loop-number-preserved-in-Some-line c =
    let net = c.args.network.now in
    let st = state_of net.records in
    let n = c.loop-number.number-iterator.a.start in
    let ((is, next), ahead) = c.in-Some.ensures.steps in
    let (added, few, low, high, rest) = c.loop-number.invariant in
    let sixteen : length c.args.figures.now.needs ≡ 16 = search rules in
    let step = stepped c.args.figures.now.needs _ _ (n - 1) c.in-Some.need.now rest ahead sixteen in
    let there = ap (line_at net.records.rack) (sym is) ∙ sym c.line.ensures ∙ c.in-Some-line.is in
    let noted_is = c.push.ensures ∙ ap (λ k. noted c.loop-number.journal ++ Entry.Line k c.in-Some-need.need c.in-Some-line.line.places ∷ []) is in
    let answer =
    line_by_figures plan_alpha st (sound net)
    c.args.figures.now c.requires.figures n low (omega (arith, step.0)) c.in-Some-line.line there c.in-Some-need.need (step.1 ∙ c.in-Some-need.is) in
    let on : c.next.new.self.a.start ≡ n + 1 = next ∙ ap (λ k. k + 1) is in
    rw on (
      line_added st n low (omega (arith, step.0, net.sixteen)) c.in-Some-line.line _
          (noted c.args.journal.now) (noted c.loop-number.journal) (noted c.push.new.self) there answer added noted_is,
      omega (arith, ap length noted_is, length_push (noted c.loop-number.journal) (Entry.Line n c.in-Some-need.need c.in-Some-line.line.places), few),
      omega arith,
      omega (arith, step.0),
      step.2 ∙ ap (λ k. drop k c.args.figures.now.needs) (omega (arith, low)),
    )

pub loop-number-preserved : goal.loop-number-preserved
loop-number-preserved c =
    let net = c.args.network.now in
    let st = state_of net.records in
    let n = c.loop-number.number-iterator.a.start in
    let ((is, next), ahead) = c.in-Some.ensures.steps in
    let (added, few, low, high, rest) = c.loop-number.invariant in
    let sixteen : length c.args.figures.now.needs ≡ 16 = search rules in
    let step = stepped c.args.figures.now.needs _ _ (n - 1) c.in-Some.need.now rest ahead sixteen in
    let none = ap (line_at net.records.rack) (sym is) ∙ sym c.line.ensures ∙ c.in_default.is in
    let on : c.next.new.self.a.start ≡ n + 1 = next ∙ ap (λ k. k + 1) is in
    rw on (
      absent_added st n low (omega (arith, step.0, net.sixteen)) (noted c.args.journal.now) (noted c.loop-number.journal) none added,
      omega (arith, few),
      omega arith,
      omega (arith, step.0),
      step.2 ∙ ap (λ k. drop k c.args.figures.now.needs) (omega (arith, low)),
    )
