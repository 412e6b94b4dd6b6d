use Rattle.std.proofs.Common.{◌≡◌, ◌+◌, ◌≤◌, min, true, ◌++◌, length, take, drop, sym, ap, ◌∙◌, subst}
use Rattle.std.specs.List.{insert}
use Rattle.figures.specs.Limits.{most_streams}
use Rattle.figures.specs.Tables.{table_kept, Distinct}
use Rattle.admission.specs.Checks.{CheckTold}
use Rattle.records.specs.Lists.{filed, place}
use Rattle.records.specs.Sound.{Sound}
use Rattle.records.specs.States.{Tried, if_passed}
use Rattle.records.proofs.Differ.{differ_distinct}
use Rattle.records.proofs.Requests.{state, room_left, place_low, new_sound, left_sound, left_state}
use Rattle.records.proofs.records.Records.request.Goals as goal

pub try_file-requires : goal.try_file-requires
try_file-requires g c =
    let rack = c.args.self.now.rack in
    let t = c.args.self.now.table in
    let m = t.memory.now in
    let s = c.args.stream in
    let free = c.in_ok-check_newcomer.ensures in
    let at = c.place_of-at.ensures ∙ ap (place s.priority) c.streams.ensures in
    let sound = new_sound rack m t.len s t.inside c.requires free in
    record {
      inside = (subst (λ n. n ≤ t.len) (sym at) (place_low rack m t.len s t.inside c.requires free), room_left rack m t.len s t.inside c.requires free);
      kept = subst (λ n. table_kept rack (insert (take t.len m) n s) ≡ true) (sym at) sound.kept;
      distinct = subst (λ n. Distinct (insert (take t.len m) n s)) (sym at) (differ_distinct _ sound.differ);
      sixteen = sound.sixteen;
    }

pub returns : goal.returns
returns g c =
    let α = g.K.Arrival.alpha in
    let rack = c.args.self.now.rack in
    let t = c.args.self.now.table in
    let m = t.memory.now in
    let len = t.len in
    let s = c.args.stream in
    let r = c.try_file.result in
    let new = c.try_file.new.self in
    let free = c.in_ok-check_newcomer.ensures in
    let at = c.place_of-at.ensures ∙ ap (place s.priority) c.streams.ensures in
    let told : CheckTold α rack (filed s (take len m)) r = subst (λ p. CheckTold α rack (insert (take len m) p s) r) at c.try_file.ensures.told in
    let is : new.memory.now ≡ if_passed r (filed s (take len m) ++ drop (len + 1) m) m =
    subst (λ p. new.memory.now ≡ if_passed r (insert (take len m) p s ++ drop (len + 1) m) m) at c.try_file.ensures.memory in
    let left = left_state rack m len s t.inside c.requires free r new.memory.now new.len is c.try_file.ensures.len in
    record {
      sound = subst (λ st. Sound st) (sym left) (left_sound rack m len s t.inside c.requires free r);
      told = subst (λ o. Tried α (state rack m len) o (record { rack = rack; streams = filed s (take len m); room = min most_streams (length m) }) r (state rack new.memory.now new.len)) (sym free) (told, left);
      left = is;
    }
