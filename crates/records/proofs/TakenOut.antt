-- A withdrawal on the records: the state that it leaves.
use Rattle.std.proofs.Common.{◌≡◌, ℕ, ◌-◌, ◌<◌, ◌≤◌, min, List, [], ◌∷◌, ◌++◌, length, get_or, take, drop, None, ap, ◌∙◌, arith}
use Rattle.std.proofs.lemmas.List.Edits.{length-remove}
use Rattle.std.proofs.lemmas.List.{length-append, length-drop, length-take-le, take_at}
use Rattle.std.specs.List.{remove}
use Rattle.figures.specs.declared.racks.Rack.{Rack}
use Rattle.figures.specs.declared.streams.Stream.{Stream}
use Rattle.figures.specs.Limits.{most_streams}
use Rattle.records.specs.Lists.{number_at, withdrawn}
use Rattle.records.specs.Sound.{Sound}
use Rattle.records.specs.States.{unknown_stream}
use Rattle.records.proofs.Refusals.{unknown_stream_none, withdrawn_sound}
use Rattle.records.proofs.Requests.{state}

-- the table, once the record at a has gone behind it
pub record Out {X : Type 0} (m n : List X) (len a : ℕ) : Type 0 where
  pub front : take (len - 1) n ≡ remove (take len m) a
  pub long : length n ≡ length m

pub out : {X : Type 0} (m n : List X) (len a : ℕ) → a < len → len ≤ length m → ((d : X) → n ≡ remove (take len m) a ++ get_or m a d ∷ drop len m) → Out m n len a
out [] n len a lt le is = absurd (omega arith)
out (d ∷ rest) n len a lt le is =
    let m = d ∷ rest in
    let xs_len : length (take len m) ≡ len = length-take-le len m le in
    let r_len = length-remove (take len m) a (omega arith) in
    record {
      front = ap (take (len - 1)) (is d) ∙ take_at (remove (take len m) a) (get_or m a d ∷ drop len m) (len - 1) (omega arith);
      long = omega (arith, ap length (is d), length-append (remove (take len m) a) (get_or m a d ∷ drop len m), length-drop len m);
    }

module _ {K : Type 0} (rack : Rack) (m : List (Stream K)) (len number : ℕ) (inside : len ≤ length m) (sound : Sound (state rack m len)) (known : unknown_stream (state rack m len) number ≡ None) where
  pub place_there : number_at number (take len m) < len
  place_there = omega (arith, (unknown_stream_none (state rack m len) number known).there, length-take-le len m inside)

  pub left_sound : Sound (record { rack = rack; streams = withdrawn number (take len m); room = min most_streams (length m) })
  left_sound = withdrawn_sound (state rack m len) sound number known

  pub left_state : (n : List (Stream K)) → Out m n len (number_at number (take len m)) → state rack n (len - 1) ≡ record { rack = rack; streams = withdrawn number (take len m); room = min most_streams (length m) }
  left_state n gone =
      ap (λ t. record { rack = rack; streams = t; room = min most_streams (length n) }) gone.front
      ∙ ap (λ k. record { rack = rack; streams = withdrawn number (take len m); room = min most_streams k }) gone.long
