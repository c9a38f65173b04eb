-- The bounds of a word with all its bits open.
use Prim.Native.Nat.{ℕ, ◌-◌, ◌^◌, ◌≤◌, ◌<◌}
use native.Mathlib.Omega.{arith}
use native.Mathlib.Decide.{dec_lt}
use Rattle.words.specs.Bits.{bit, ◌⊑◌}
use Rattle.words.proofs.Order.{bit_lt, bit_of_zero, bit_high}
use Rattle.words.proofs.Ops.{bit_mask}

pub zero_⊑ : (x : ℕ) → 0 ⊑ x
zero_⊑ x = record { bits = λ j. omega (arith, bit_of_zero j) }

pub ⊑_mask : (w x : ℕ) → x < 2 ^ w → x ⊑ 2 ^ w - 1
⊑_mask w x l = record { bits = λ j. go j (dec_lt j w) }
  where
    go : (j : ℕ) → Dec (j < w) → bit x j ≤ bit (2 ^ w - 1) j
    go j (yes a) = omega (arith, bit_lt x j, bit_mask w j a)
    go j (no a) = omega (arith, bit_high x w j l (omega arith))
