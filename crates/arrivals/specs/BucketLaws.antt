-- The laws of the bucket.
use Rattle.std.specs.Prelude.{ℕ, ◌-◌, ◌≤◌}
use Rattle.std.proofs.Common.{arith}
use Rattle.std.proofs.lemmas.Bool.Decides.{nat_tests}
use Rattle.arrivals.specs.declared.buckets.Bucket.{Bucket}
use Rattle.arrivals.specs.Buckets.{Kept, meaning, bucket_alpha}
use Rattle.arrivals.specs.Quotients.{div_rises, windowed_rises}

pub meaning_kept : (b : Bucket) → Kept (meaning b)
meaning_kept b = record {
  burst_low = grind (arith, nat_tests);
  burst_high = grind (arith, nat_tests);
  interval_low = grind (arith, nat_tests);
  interval_high = grind (arith, nat_tests);
}

pub rises : (b : Bucket) (v w : ℕ) → v ≤ w → bucket_alpha b v ≤ bucket_alpha b w
rises b v w h =
    let q = div_rises (v - 1) (w - 1) (meaning b).interval (meaning_kept b).interval_low (omega arith) in
    windowed_rises _ _ v w h (omega arith)
