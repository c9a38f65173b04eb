-- Bounds bit by bit, as "Words" has them: lo has no 1 where hi has 0, and neither has a 1 at or above the width.
use mathlib.Core.Path.{◌≡◌, sym, ◌∙◌}
use Prim.Native.Nat.{ℕ, ◌+◌, ◌/◌, ◌^◌, ◌≤◌, ◌<◌}
use native.Mathlib.Nat.{div-lt_iff_lt-mul}
use native.Mathlib.Omega.{arith}
use lib.Pow.{pow_pos}
use Rattle.words.specs.Bits.{bit}
use Rattle.words.specs.Word.{Bounded}
use Rattle.words.proofs.Order.{bits_ext, bit_high, bit_of_zero}
use Rattle.words.proofs.Ops.{bit_shr}

-- a number with no 1 at or above w is below 2 ^ w
below_pow : (w n : ℕ) → ((j : ℕ) → w ≤ j → bit n j ≡ 0) → n < 2 ^ w
below_pow w n h =
    let none : n / 2 ^ w ≡ 0 = bits_ext (n / 2 ^ w) 0 (λ j. bit_shr n w j ∙ h (w + j) (omega arith) ∙ sym (bit_of_zero j)) in
    let less : n / 2 ^ w < 1 = omega arith in
    omega (arith, (div-lt_iff_lt-mul (pow_pos w)).0 less)

pub bounded_bits : {w lo hi : ℕ} → Bounded w lo hi → (j : ℕ) → (bit lo j ≤ bit hi j) × (w ≤ j → (bit lo j ≡ 0) × (bit hi j ≡ 0))
bounded_bits {w} {lo} {hi} h j =
    let above : w ≤ j → bit hi j ≡ 0 = λ l. bit_high hi w j h.below l in
    (h.under.bits j, λ l. (omega (arith, h.under.bits j, above l), above l))

pub bits_bounded : (w lo hi : ℕ) → ((j : ℕ) → bit lo j ≤ bit hi j) → ((j : ℕ) → w ≤ j → bit hi j ≡ 0) → Bounded w lo hi
bits_bounded w lo hi h k = record { under = record { bits = h }; below = below_pow w hi k }
