-- Worked values of the arrival bounds.
use Rattle.std.specs.Prelude.{◌≡◌}
use Rattle.arrivals.specs.declared.messages.Message.{Message}
use Rattle.arrivals.specs.Messages.{message_alpha}

-- three cells, two ticks apart, in each 20 ticks
abbrev pub message_10 : Message
message_10 = record { period = 20; jitter = 0; cells = 3; gap = 2 }

pub record WorkedKinds : Type 0 where
  pub in_4 : message_alpha message_10 4 ≡ 2
  pub in_5 : message_alpha message_10 5 ≡ 3
  pub in_21 : message_alpha message_10 21 ≡ 4
