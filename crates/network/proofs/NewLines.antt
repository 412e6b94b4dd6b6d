-- A rack that takes a line within its limits keeps its limits.
use Rattle.std.proofs.Common.{◌≡◌, ℕ, zero, suc, ◌-◌, Bool, true, ◌&&◌, List, [], ◌∷◌, set, Some, Option, refl, ap, ◌∙◌, arith}
use Rattle.std.proofs.lemmas.Bool.Decides.{nat_tests}
use Rattle.std.proofs.lemmas.Bool.{and_parts}
use Rattle.figures.specs.declared.racks.Line.{Line}
use Rattle.figures.specs.declared.racks.Rack.{Rack}
use Rattle.figures.specs.Racks.{hub_kept, line_kept, lines_kept, rack_kept}
use Rattle.records.specs.States.{line_within, line_set}

together : (a b : Bool) → a ≡ true → b ≡ true → a && b ≡ true
together a b x y = ap (λ c. c && b) x ∙ y

lines_kept_set : (lines : List (Option Line)) (i : ℕ) (o : Option Line) → lines_kept lines ≡ true → line_kept o ≡ true → lines_kept (set lines i o) ≡ true
lines_kept_set [] i o kept new = refl
lines_kept_set (x ∷ xs) zero o kept new = together (line_kept o) (lines_kept xs) new (and_parts (line_kept x) (lines_kept xs) kept).1
lines_kept_set (x ∷ xs) (suc i) o kept new =
    let p = and_parts (line_kept x) (lines_kept xs) kept in
    together (line_kept x) (lines_kept (set xs i o)) p.0 (lines_kept_set xs i o p.1 new)

within_kept : (line : Line) → line_within line ≡ true → line_kept (Some line) ≡ true
within_kept line h = grind (arith, nat_tests)

pub line_set_kept : (rack : Rack) (l : ℕ) (line : Line) → rack_kept rack ≡ true → line_within line ≡ true → rack_kept (line_set rack l line) ≡ true
line_set_kept rack l line kept new =
    let p = and_parts (hub_kept rack.hub) (lines_kept rack.lines) kept in
    together (hub_kept rack.hub) (lines_kept (set rack.lines (l - 1) (Some line))) p.0 (lines_kept_set rack.lines (l - 1) (Some line) p.1 (within_kept line new))
