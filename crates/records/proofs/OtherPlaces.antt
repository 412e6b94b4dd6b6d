-- A rack with other places at its ports: its lines have the same sides and times, so a table is kept as before.
use Rattle.std.proofs.Common.{◌≡◌, ℕ, zero, suc, ◌-◌, true, false, cond, ◌&&◌, eqb, leb, List, [], ◌∷◌, map, length, get_or, set, Some, None, Option, sym, refl, ap, ◌∙◌}
use Rattle.std.proofs.lemmas.List.{ext_get_or, length-map, map-set, set-get_or}
use Rattle.figures.specs.declared.racks.Line.{Line}
use Rattle.figures.specs.declared.racks.Rack.{Rack}
use Rattle.figures.specs.declared.streams.Stream.{Stream}
use Rattle.figures.specs.Limits.{most_streams}
use Rattle.figures.specs.Racks.{cell_time_of, hub_kept, is_inbound, is_outbound, line_at, line_kept, lines_kept, propagation_of, rack_kept}
use Rattle.figures.specs.Tables.{all_placed, falls_under, placed, table_kept}

-- a line without its places
abbrev pub bare : Option Line → Option Line
bare (Some line) =
    Some (record { side = line.side; cell_time = line.cell_time; propagation = line.propagation; places = 0 })
bare None = None

-- the racks differ in nothing but the places of their lines
pub record Alike (rack rack' : Rack) : Type 0 where
  pub hub : rack'.hub ≡ rack.hub
  pub lines : map bare rack'.lines ≡ map bare rack.lines

inbound_bare : (o : Option Line) → is_inbound (bare o) ≡ is_inbound o
inbound_bare (Some line) = refl
inbound_bare None = refl

outbound_bare : (o : Option Line) → is_outbound (bare o) ≡ is_outbound o
outbound_bare (Some line) = refl
outbound_bare None = refl

cell_time_bare : (o : Option Line) → cell_time_of (bare o) ≡ cell_time_of o
cell_time_bare (Some line) = refl
cell_time_bare None = refl

propagation_bare : (o : Option Line) → propagation_of (bare o) ≡ propagation_of o
propagation_bare (Some line) = refl
propagation_bare None = refl

kept_bare : (o : Option Line) → line_kept (bare o) ≡ line_kept o
kept_bare (Some line) = refl
kept_bare None = refl

lines_kept_bare : (lines : List (Option Line)) → lines_kept (map bare lines) ≡ lines_kept lines
lines_kept_bare [] = refl
lines_kept_bare (o ∷ lines) =
    ap (λ b. b && lines_kept (map bare lines)) (kept_bare o) ∙ ap (λ b. line_kept o && b) (lines_kept_bare lines)

getD_bare : (lines : List (Option Line)) (i : ℕ) → get_or (map bare lines) i None ≡ bare (get_or lines i None)
getD_bare [] i = refl
getD_bare (o ∷ lines) zero = refl
getD_bare (o ∷ lines) (suc i) = getD_bare lines i

-- as many lines, and at each place the same side and times
pub each_alike : (rack rack' : Rack) → rack'.hub ≡ rack.hub → length rack'.lines ≡ length rack.lines
    → ((i : ℕ) → bare (get_or rack'.lines i None) ≡ bare (get_or rack.lines i None)) → Alike rack rack'
each_alike rack rack' hub long same =
    record {
      hub = hub;
      lines =
          ext_get_or None (map bare rack'.lines) (map bare rack.lines)
          (length-map rack'.lines bare ∙ (long ∙ sym (length-map rack.lines bare)))
          (λ i _. getD_bare rack'.lines i ∙ (same i ∙ sym (getD_bare rack.lines i)));
    }

-- the lines with one of them put in for another of the same side and times
pub set_alike : (rack rack' : Rack) (i : ℕ) (o : Option Line) → rack'.hub ≡ rack.hub
    → rack'.lines ≡ set rack.lines i o → bare o ≡ bare (get_or rack.lines i None) → Alike rack rack'
set_alike rack rack' i o hub lines same =
    record {
      hub = hub;
      lines =
          ap (map bare) lines
          ∙ (map-set bare rack.lines i o
          ∙ (ap (set (map bare rack.lines) i) (same ∙ sym (getD_bare rack.lines i))
          ∙ set-get_or (map bare rack.lines) i None));
    }

-- and where the line at i only has other places
pub line_alike : (rack rack' : Rack) (i : ℕ) (line line' : Line) → rack'.hub ≡ rack.hub
    → rack'.lines ≡ set rack.lines i (Some line') → get_or rack.lines i None ≡ Some line
    → line'.side ≡ line.side → line'.cell_time ≡ line.cell_time → line'.propagation ≡ line.propagation
    → Alike rack rack'
line_alike rack rack' i line line' hub lines at side cell way =
    set_alike rack rack' i (Some line') hub lines (same ∙ sym (ap bare at))
  where
    same : bare (Some line') ≡ bare (Some line)
    same =
        ap (λ x. Some (record { side = x; cell_time = line'.cell_time; propagation = line'.propagation; places = 0 })) side
        ∙ (ap (λ x. Some (record { side = line.side; cell_time = x; propagation = line'.propagation; places = 0 })) cell
        ∙ ap (λ x. Some (record { side = line.side; cell_time = line.cell_time; propagation = x; places = 0 })) way)

module _ (rack rack' : Rack) (alike : Alike rack rack') where
  pub bare_at : (n : ℕ) → bare (line_at rack' n) ≡ bare (line_at rack n)
  bare_at n = elim (eqb n 0) as (λ b. bare (cond b None (get_or rack'.lines (n - 1) None)) ≡ bare (cond b None (get_or rack.lines (n - 1) None))) [
    | true ↦ refl
    | false ↦ sym (getD_bare rack'.lines (n - 1)) ∙ (ap (λ lines. get_or lines (n - 1) None) alike.lines ∙ getD_bare rack.lines (n - 1))
  ]

  pub same_inbound : (n : ℕ) → is_inbound (line_at rack' n) ≡ is_inbound (line_at rack n)
  same_inbound n = sym (inbound_bare (line_at rack' n)) ∙ (ap is_inbound (bare_at n) ∙ inbound_bare (line_at rack n))

  pub same_outbound : (n : ℕ) → is_outbound (line_at rack' n) ≡ is_outbound (line_at rack n)
  same_outbound n = sym (outbound_bare (line_at rack' n)) ∙ (ap is_outbound (bare_at n) ∙ outbound_bare (line_at rack n))

  pub same_cell_time : (n : ℕ) → cell_time_of (line_at rack' n) ≡ cell_time_of (line_at rack n)
  same_cell_time n = sym (cell_time_bare (line_at rack' n)) ∙ (ap cell_time_of (bare_at n) ∙ cell_time_bare (line_at rack n))

  pub same_propagation : (n : ℕ) → propagation_of (line_at rack' n) ≡ propagation_of (line_at rack n)
  same_propagation n = sym (propagation_bare (line_at rack' n)) ∙ (ap propagation_of (bare_at n) ∙ propagation_bare (line_at rack n))

  pub same_rack_kept : rack_kept rack' ≡ rack_kept rack
  same_rack_kept =
      ap (λ b. b && lines_kept rack'.lines) (ap hub_kept alike.hub)
      ∙ ap (λ b. hub_kept rack.hub && b)
      (sym (lines_kept_bare rack'.lines) ∙ (ap lines_kept alike.lines ∙ lines_kept_bare rack.lines))

  pub same_placed : {K : Type 0} (s : Stream K) → placed rack' s ≡ placed rack s
  same_placed s =
      ap (λ b. b && is_outbound (line_at rack' s.outbound)) (same_inbound s.inbound)
      ∙ ap (λ b. is_inbound (line_at rack s.inbound) && b) (same_outbound s.outbound)

  same_all_placed : {K : Type 0} (xs : List (Stream K)) → all_placed rack' xs ≡ all_placed rack xs
  same_all_placed [] = refl
  same_all_placed (x ∷ xs) =
      ap (λ b. b && all_placed rack' xs) (same_placed x) ∙ ap (λ b. placed rack x && b) (same_all_placed xs)

  pub places_kept : {K : Type 0} (xs : List (Stream K)) → table_kept rack' xs ≡ table_kept rack xs
  places_kept xs =
      ap (λ b. b && (leb (length xs) most_streams && (falls_under 256 xs && all_placed rack' xs))) same_rack_kept
      ∙ ap (λ b. rack_kept rack && (leb (length xs) most_streams && (falls_under 256 xs && b))) (same_all_placed xs)
