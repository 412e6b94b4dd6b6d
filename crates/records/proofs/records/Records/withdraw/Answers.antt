use Rattle.std.proofs.Common.{◌≡◌, min, ◌∷◌, ◌++◌, length, get_or, take, drop, None, sym, ap, ◌∙◌, subst}
use Rattle.std.specs.List.{remove}
use Rattle.figures.specs.declared.streams.Stream.{Stream}
use Rattle.figures.specs.Limits.{most_streams}
use Rattle.records.specs.Lists.{number_at, withdrawn}
use Rattle.records.specs.Sound.{Sound}
use Rattle.records.specs.States.{unknown_stream, verdict, unless}
use Rattle.records.proofs.Requests.{state}
use Rattle.records.proofs.TakenOut.{Out, out, place_there, left_sound, left_state}
use Rattle.records.proofs.records.Records.withdraw.Goals as goal

pub returns : goal.returns
returns g c =
    let net = c.args.self.now in
    let rack = net.rack in
    let m = net.table.memory.now in
    let len = net.table.len in
    let n = c.remove.new.self.memory.now in
    let found = c.in_ok-at.ensures in
    let known : unknown_stream (state rack m len) c.args.number ≡ None = found.0 in
    let there = place_there rack m len c.args.number net.table.inside c.requires known in
    let is : (d : Stream g.row.K.Denot) → n ≡ remove (take len m) (number_at c.args.number (take len m)) ++ get_or m (number_at c.args.number (take len m)) d ∷ drop len m =
    λ d. subst (λ a. n ≡ remove (take len m) a ++ get_or m a d ∷ drop len m) found.1 (c.remove.ensures.memory d) in
    let gone : Out m n len (number_at c.args.number (take len m)) = out m n len _ there net.table.inside is in
    let new = ap (state rack n) c.remove.ensures.len ∙ left_state rack m len c.args.number net.table.inside c.requires known n gone in
    record {
      sound = subst (λ st. Sound st) (sym new) (left_sound rack m len c.args.number net.table.inside c.requires known);
      told = (
        ap verdict (sym known),
        new ∙ ap (λ o. unless o (record { rack = rack; streams = withdrawn c.args.number (take len m); room = min most_streams (length m) }) (state rack m len)) (sym known),
      );
      left = is;
    }
