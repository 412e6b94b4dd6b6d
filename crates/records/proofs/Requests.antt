-- A request on the records: the state before it, and the state that it leaves.
use Rattle.std.proofs.Common.{◌≡◌, ℕ, ◌+◌, ◌<◌, ◌≤◌, min, ltb, List, ◌++◌, length, take, drop, None, Ok, Err, Result, ap, ◌∙◌, arith}
use Rattle.std.proofs.lemmas.List.{length-take-le}
use Rattle.std.proofs.lemmas.List.Sums.{prefix_len-le-length}
use Rattle.figures.specs.declared.racks.Rack.{Rack}
use Rattle.figures.specs.declared.streams.Stream.{Stream}
use Rattle.figures.specs.Limits.{most_streams}
use Rattle.admission.specs.declared.faults.TableFault.{TableFault}
use Rattle.records.specs.Lists.{place, filed}
use Rattle.records.specs.Sound.{Sound}
use Rattle.records.specs.States.{State, if_passed, unfiled}
use Rattle.records.proofs.Filing.{front_is, same_length}
use Rattle.records.proofs.Refusals.{unfiled_none, filed_sound}

-- the state of a rack, a memory and the length of its table
abbrev pub state : {K : Type 0} → Rack → List (Stream K) → ℕ → State K
state rack m len = record { rack = rack; streams = take len m; room = min most_streams (length m) }

module _ {K : Type 0} (rack : Rack) (m : List (Stream K)) (len : ℕ) (s : Stream K) (inside : len ≤ length m) (sound : Sound (state rack m len)) (free : unfiled (state rack m len) s ≡ None) where
  pub room_left : len < length m
  room_left = omega (arith, (unfiled_none (state rack m len) s free).roomy, length-take-le len m inside)

  pub place_low : place s.priority (take len m) ≤ len
  place_low = omega (arith, prefix_len-le-length (λ x. ltb s.priority x.priority) (take len m), length-take-le len m inside)

  pub new_sound : Sound (record { rack = rack; streams = filed s (take len m); room = min most_streams (length m) })
  new_sound = filed_sound (state rack m len) sound s (omega arith) free

  module _ (n : List (Stream K)) (is : n ≡ filed s (take len m) ++ drop (len + 1) m) where
    pub new_length : length n ≡ length m
    new_length = same_length m n len (place s.priority (take len m)) s place_low room_left is

    pub new_state : state rack n (len + 1) ≡ record { rack = rack; streams = filed s (take len m); room = min most_streams (length m) }
    new_state =
        let front : take (len + 1) n ≡ filed s (take len m) = front_is m n len (place s.priority (take len m)) s place_low room_left is in
        ap (λ t. record { rack = rack; streams = t; room = min most_streams (length n) }) front
        ∙ ap (λ k. record { rack = rack; streams = filed s (take len m); room = min most_streams k }) new_length

  -- what is left of the state where the check passes, and where it does not
  pub left_state : (r : Result (Unit {0}) TableFault) (n : List (Stream K)) (k : ℕ) → n ≡ if_passed r (filed s (take len m) ++ drop (len + 1) m) m → k ≡ if_passed r (len + 1) len
      → state rack n k ≡ if_passed r (record { rack = rack; streams = filed s (take len m); room = min most_streams (length m) }) (state rack m len)
  left_state (Ok x) n k is at = ap (state rack n) at ∙ new_state n is
  left_state (Err fault) n k is at = ap (λ y. state rack y k) is ∙ ap (state rack m) at

  pub left_sound : (r : Result (Unit {0}) TableFault)
      → Sound (if_passed r (record { rack = rack; streams = filed s (take len m); room = min most_streams (length m) }) (state rack m len))
  left_sound (Ok x) = new_sound
  left_sound (Err fault) = sound
