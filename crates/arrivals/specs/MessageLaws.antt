-- The laws of the message.
use Rattle.std.specs.Prelude.{◌≡◌, ℕ, ◌+◌, ◌*◌, ◌/◌, ◌%◌, ◌<◌, ◌≤◌, ◌==◌}
use Rattle.std.proofs.Common.{ap, inl, inr, arith, mul-le-mul_left, mul-le-mul_right, add-mul, one-mul, mul-one, zero-mul}
use Rattle.std.proofs.lemmas.Nat.{div-add-mod'}
use Rattle.std.proofs.lemmas.Bool.{cases_lt, cond_both}
use Rattle.std.proofs.lemmas.Bool.Decides.{nat_tests}
use Rattle.arrivals.specs.declared.messages.Message.{Message}
use Rattle.arrivals.specs.Limits.{longest, most}
use Rattle.arrivals.specs.Messages.{Kept, cells_in, meaning, message_alpha}
use Rattle.arrivals.specs.Quotients.{div_rises, rounded_up_le, rounded_up_some, rounded_up_rises, windowed_rises}

pub meaning_kept : (m : Message) → Kept (meaning m)
meaning_kept m = record {
  period_low = grind (arith, nat_tests);
  period_high = grind (arith, nat_tests);
  jitter_high = grind (arith, nat_tests);
  cells_low = grind (arith, nat_tests);
  cells_high = grind (arith, nat_tests);
  gap_low = grind (arith, nat_tests);
  gap_high = grind (arith, nat_tests);
  fits = grind (arith, nat_tests);
}

module _ (m : Message) (kept : Kept m) where
  cells_le_period : m.cells ≤ m.period
  cells_le_period =
      omega (arith, kept.fits, mul-le-mul_left {m = 1} {n = m.gap} m.cells kept.gap_low, mul-one m.cells)

  pub whole_le : (x : ℕ) → (x / m.period) * m.cells ≤ (x / m.period) * m.period
  whole_le x = mul-le-mul_left (x / m.period) cells_le_period

  -- no more cells than ticks
  pub cells_le : (x : ℕ) → cells_in m x ≤ x
  cells_le x =
      omega (arith, whole_le x, div-add-mod' x m.period, rounded_up_le (x % m.period) m.gap kept.gap_low)

  -- where the second falls into a later period
  later : (x y : ℕ) → x / m.period < y / m.period → cells_in m x ≤ cells_in m y
  later x y h =
      omega (
        arith,
        mul-le-mul_right {m = x / m.period + 1} {n = y / m.period} m.cells (omega arith),
        add-mul (x / m.period) 1 m.cells,
        one-mul m.cells,
      )

  -- where both fall into one period
  same : (x y : ℕ) → x ≤ y → x / m.period ≡ y / m.period → cells_in m x ≤ cells_in m y
  same x y h e =
      let p : (x / m.period) * m.period ≡ (y / m.period) * m.period = ap (λ q. q * m.period) e in
      let q : (x / m.period) * m.cells ≡ (y / m.period) * m.cells = ap (λ q. q * m.cells) e in
      let r : x % m.period ≤ y % m.period = omega (arith, div-add-mod' x m.period, div-add-mod' y m.period) in
      omega (arith, rounded_up_rises (x % m.period) (y % m.period) m.gap kept.gap_low r)

  pub cells_rise : (x y : ℕ) → x ≤ y → cells_in m x ≤ cells_in m y
  cells_rise x y h =
      elim (cases_lt (x / m.period) (y / m.period)) [
        | inl less ↦ later x y less
        | inr le ↦ same x y h (omega (arith, div_rises x y m.period kept.period_low h))
      ]

  pub cells_some : (x : ℕ) → 1 ≤ x → 1 ≤ cells_in m x
  cells_some x h =
      elim (cases_lt 0 (x / m.period)) [
        | inl less ↦
            omega (arith, kept.cells_low, mul-le-mul_right {m = 1} {n = x / m.period} m.cells less, one-mul m.cells)
        | inr le ↦
            let p : (x / m.period) * m.period ≡ 0 * m.period = ap (λ q. q * m.period) (omega arith) in
            let r : 1 ≤ x % m.period = omega (arith, div-add-mod' x m.period, zero-mul m.period) in
            omega (arith, kept.cells_low, rounded_up_some (x % m.period) m.gap kept.gap_low r)
      ]

module _ (m : Message) where
  pub rises : (v w : ℕ) → v ≤ w → message_alpha m v ≤ message_alpha m w
  rises v w h =
      windowed_rises _ _ v w h
      (cells_rise (meaning m) (meaning_kept m) (v + (meaning m).jitter) (w + (meaning m).jitter) (omega arith))

  pub some : 1 ≤ message_alpha m 1
  some = cells_some (meaning m) (meaning_kept m) (1 + (meaning m).jitter) (omega arith)

  pub small : (w : ℕ) → w ≤ longest → message_alpha m w ≤ most
  small w h =
      let s = cells_le (meaning m) (meaning_kept m) (w + (meaning m).jitter) in
      let j = (meaning_kept m).jitter_high in
      cond_both (w == 0) 0 _ (λ a. a ≤ most) (λ e. omega arith) (λ e. omega arith)
