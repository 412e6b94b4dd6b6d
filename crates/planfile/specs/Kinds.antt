-- The arrival kinds of a plan file, and the most cells that each may queue in a window.
use Rattle.std.specs.Prelude.{ℕ}
use Rattle.arrivals.specs.declared.buckets.Bucket.{Bucket}
use Rattle.arrivals.specs.declared.choices.Choice.{Choice}
use Rattle.arrivals.specs.declared.messages.Message.{Message}
use Rattle.arrivals.specs.Buckets.{bucket_alpha}
use Rattle.arrivals.specs.Choices.{chosen}
use Rattle.arrivals.specs.Messages.{message_alpha}

abbrev pub PlanKind : Type 0
PlanKind = Choice Message Bucket

abbrev pub plan_alpha : PlanKind → ℕ → ℕ
plan_alpha = chosen message_alpha bucket_alpha
