use Rattle.std.proofs.Common.{◌≡◌, ℕ, ◌≤◌, true, ◌&&◌, List, None, sym, ◌∙◌, subst, arith, rules}
use Rattle.std.proofs.lemmas.Bool.{cond-true}
use Rattle.std.proofs.lemmas.Bool.Decides.{nat_tests}
use Rattle.figures.specs.declared.racks.Rack.{Rack}
use Rattle.figures.specs.declared.streams.Stream.{Stream}
use Rattle.figures.specs.Racks.{line_at}
use Rattle.admission.specs.Limits.{last_line, most_places}
use Rattle.records.specs.Sound.{Sound}
use Rattle.admission.specs.Fields.{within}
use Rattle.records.specs.States.{State, is_there, unplaced, unknown_line, places_set}
use Rattle.records.proofs.Refusals.{unknown_line_none, placed_sound}
use Rattle.records.proofs.Requests.{state}
use Rattle.records.proofs.records.Records.set_places.Goals as goal

-- rack, memory and length as they are once the places are written
written : {K : Type 0} (rack rack' : Rack) (m m' : List (Stream K)) (len len' : ℕ) → rack' ≡ rack → m' ≡ m → len' ≡ len → state rack' m' len' ≡ state rack m len
written rack rack' m m' len len' a b c = cc

placed_free : {K : Type 0} (st : State K) (l p : ℕ) → unknown_line st l ≡ None → 1 ≤ p → p ≤ most_places → unplaced st l p ≡ None
placed_free st l p known low high =
    let f = unknown_line_none st l known in
    let a = f.line_low in
    let b = f.line_high in
    let test : within 1 l last_line && within 1 p most_places ≡ true = grind (arith, nat_tests) in
    cond-true (within 1 l last_line && within 1 p most_places) _ _ test ∙ cond-true (is_there (line_at st.rack l)) _ _ f.there

pub check-verdict-requires : goal.check-verdict-requires
check-verdict-requires g c =
    let net = c.args.self.now in
    let new = c.write_places.new.self in
    let e = c.write_places.ensures in
    let same = written (places_set net.rack c.args.number c.args.places) new.rack net.table.memory.now new.table.memory.now net.table.len new.table.len e.rack e.memory.0 e.memory.1 in
    let free : unplaced (state net.rack net.table.memory.now net.table.len) c.args.number c.args.places ≡ None =
    placed_free (state net.rack net.table.memory.now net.table.len) c.args.number c.args.places c.in_ok-known_line.ensures.0 (search rules) (search rules) in
    subst (λ st. Sound st) (sym same) (placed_sound (state net.rack net.table.memory.now net.table.len) c.requires c.args.number c.args.places free)
