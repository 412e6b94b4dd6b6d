-- What a rack that keeps its limits gives, line by line.
use Rattle.std.proofs.Common.{◌≡◌, ℕ, zero, suc, ◌-◌, ◌≤◌, true, false, cond, ◌&&◌, eqb, List, [], ◌∷◌, get_or, Some, None, Option, refl, ap, arith}
use Rattle.std.specs.List.{list_all}
use Rattle.std.proofs.lemmas.Bool.{and_parts}
use Rattle.std.proofs.lemmas.Bool.Decides.{nat_tests}
use Rattle.figures.specs.declared.racks.Line.{Line}
use Rattle.figures.specs.declared.racks.Rack.{Rack}
use Rattle.ports.specs.Limits.{longest_cell}
use Rattle.figures.specs.Limits.{longest_switch, longest_propagation}
use Rattle.figures.specs.Racks.{line_at, cell_time_of, propagation_of, hub_kept, line_kept, lines_kept, rack_kept}

-- the lines keep their limits where each does
pub each_kept : (lines : List (Option Line)) → list_all line_kept lines ≡ lines_kept lines
each_kept [] = refl
each_kept (line ∷ lines) = ap (λ b. line_kept line && b) (each_kept lines)

kept_at : (lines : List (Option Line)) (i : ℕ) → lines_kept lines ≡ true → line_kept (get_or lines i None) ≡ true
kept_at [] i kept = refl
kept_at (line ∷ lines) zero kept = (and_parts (line_kept line) (lines_kept lines) kept).0
kept_at (line ∷ lines) (suc i) kept = kept_at lines i (and_parts (line_kept line) (lines_kept lines) kept).1

-- the limits of a line's times, by its number
pub record Timed (o : Option Line) : Type 0 where
  pub cell_low : 1 ≤ cell_time_of o
  pub cell_high : cell_time_of o ≤ longest_cell
  pub propagation_high : propagation_of o ≤ longest_propagation

timed : (o : Option Line) → line_kept o ≡ true → Timed o
timed None kept = record { cell_low = omega arith; cell_high = omega arith; propagation_high = omega arith }
timed (Some line) kept =
    record { cell_low = grind (arith, nat_tests); cell_high = grind (arith, nat_tests); propagation_high = grind (arith, nat_tests) }

module _ (rack : Rack) (kept : rack_kept rack ≡ true) where
  pub line_timed : (n : ℕ) → Timed (line_at rack n)
  line_timed n =
      timed (line_at rack n)
      (elim (eqb n 0) as (λ b. line_kept (cond b None (get_or rack.lines (n - 1) None)) ≡ true) [
        | true ↦ refl
        | false ↦ kept_at rack.lines (n - 1) (and_parts (hub_kept rack.hub) (lines_kept rack.lines) kept).1
      ])

  pub hub_ordered : rack.hub.least ≤ rack.hub.most
  hub_ordered = let h = (and_parts (hub_kept rack.hub) (lines_kept rack.lines) kept).0 in grind (arith, nat_tests)

  pub hub_high : rack.hub.most ≤ longest_switch
  hub_high = let h = (and_parts (hub_kept rack.hub) (lines_kept rack.lines) kept).0 in grind (arith, nat_tests)
