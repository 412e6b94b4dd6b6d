-- The lines of a rack by their numbers, and what every rack keeps.
use Rattle.std.specs.Prelude.{ℕ, ◌+◌, ◌-◌, Bool, true, false, cond, ◌&&◌, List, [], ◌∷◌, Some, None, Option, ◌==◌, nat_le, slice_index_or}
use Rattle.figures.specs.declared.racks.Hub.{Hub}
use Rattle.figures.specs.declared.racks.Side.{Side}
use Rattle.figures.specs.declared.racks.Side.TheVariants.{Inbound, Outbound}
use Rattle.figures.specs.declared.racks.Line.{Line}
use Rattle.figures.specs.declared.racks.Rack.{Rack}
use Rattle.ports.specs.Limits.{longest_cell}
use Rattle.figures.specs.Limits.{longest_switch, longest_propagation}

-- the numbers of the lines
abbrev pub numbers : List ℕ
numbers = 1 ∷ 2 ∷ 3 ∷ 4 ∷ 5 ∷ 6 ∷ 7 ∷ 8 ∷ 9 ∷ 10 ∷ 11 ∷ 12 ∷ 13 ∷ 14 ∷ 15 ∷ 16 ∷ []

-- the record of the line n, if there is one
abbrev pub line_at : Rack → ℕ → Option Line
line_at rack n = cond (n == 0) None (slice_index_or rack.lines (n - 1) None)

-- a missing line has no port and no cell; 1 and 0 only stand in for its times, and it has no place
abbrev pub cell_time_of : Option Line → ℕ
cell_time_of (Some line) = line.cell_time
cell_time_of None = 1

abbrev pub propagation_of : Option Line → ℕ
propagation_of (Some line) = line.propagation
propagation_of None = 0

abbrev pub places_of : Option Line → ℕ
places_of (Some line) = line.places
places_of None = 0

abbrev pub cell_time : Rack → ℕ → ℕ
cell_time rack n = cell_time_of (line_at rack n)

-- from the start of a cell's sending on the line n until it is at the line's end
abbrev pub sending : Rack → ℕ → ℕ
sending rack n = cell_time rack n + propagation_of (line_at rack n)

-- by how much the hub's switch times differ
abbrev pub spread : Rack → ℕ
spread rack = rack.hub.most - rack.hub.least

abbrev pub is_inbound : Option Line → Bool
is_inbound (Some line) = elim line.side [ Inbound ↦ true | Outbound ↦ false ]
is_inbound None = false

abbrev pub is_outbound : Option Line → Bool
is_outbound (Some line) = elim line.side [ Inbound ↦ false | Outbound ↦ true ]
is_outbound None = false

-- the line is there, on this side
abbrev pub is_on : Side → Option Line → Bool
is_on Inbound = is_inbound
is_on Outbound = is_outbound

abbrev pub hub_kept : Hub → Bool
hub_kept hub = nat_le hub.least hub.most && nat_le hub.most longest_switch

abbrev pub line_kept : Option Line → Bool
line_kept (Some line) =
    nat_le 1 line.cell_time && (nat_le line.cell_time longest_cell && nat_le line.propagation longest_propagation)
line_kept None = true

abbrev pub lines_kept : List (Option Line) → Bool
lines_kept [] = true
lines_kept (line ∷ lines) = line_kept line && lines_kept lines

-- the limits that the figures rest on
abbrev pub rack_kept : Rack → Bool
rack_kept rack = hub_kept rack.hub && lines_kept rack.lines
