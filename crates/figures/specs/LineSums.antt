-- What the in-bound lines bring to a hub port never falls as the window grows.
use Rattle.std.proofs.Common.{◌≡◌, ℕ, ◌+◌, ◌-◌, ◌≤◌, true, List, [], ◌∷◌, Some, None, Option, arith}
use Rattle.arrivals.specs.Limits.{longest}
use Rattle.arrivals.specs.Quotients.{div_rises}
use Rattle.figures.specs.declared.groups.Group.TheVariants.{Between}
use Rattle.figures.specs.declared.racks.Line.{Line}
use Rattle.figures.specs.declared.racks.Rack.{Rack}
use Rattle.figures.specs.declared.streams.Stream.{Stream}
use Rattle.ports.specs.Loads.{Rising, Lawful}
use Rattle.figures.specs.Racks.{numbers, line_at, cell_time_of, spread, rack_kept}
use Rattle.figures.specs.Sums.{line_load, lines_load, hub_sum}
use Rattle.figures.specs.GroupSums.{group_rises}
use Rattle.figures.specs.RackLimits.{line_timed}

module _ {K : Type 0} (α : K → ℕ → ℕ) (lawful : Lawful α) (late : List (Option ℕ)) (rack : Rack) (kept : rack_kept rack ≡ true) (table : List (Stream K)) (l : ℕ) where
  line_rises : (i v w : ℕ) → v ≤ w → w ≤ longest → (o : Option Line) → 1 ≤ cell_time_of o → line_load α late rack table l v o i ≤ line_load α late rack table l w o i
  line_rises i v w h long (Some line) pos =
      omega (
        arith,
        div_rises (v - 1 + spread rack) (w - 1 + spread rack) line.cell_time pos (omega arith),
        group_rises α lawful late table (Between i l) v w h long,
      )
  line_rises i v w h long None pos = omega arith

  lines_rise : (v w : ℕ) → v ≤ w → w ≤ longest → (is : List ℕ) → lines_load α late rack table l v is ≤ lines_load α late rack table l w is
  lines_rise v w h long [] = omega arith
  lines_rise v w h long (i ∷ is) =
      omega (arith, line_rises i v w h long (line_at rack i) (line_timed rack kept i).cell_low, lines_rise v w h long is)

  pub hub_sum_rises : Rising (hub_sum α late rack table l)
  hub_sum_rises v w h long = lines_rise v w h long numbers
