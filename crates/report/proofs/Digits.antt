-- A value in binary, read digit by digit, is the value.
use mathlib.Core.Path.{◌≡◌, ap, ◌∙◌}
use Prim.Native.Nat.{ℕ, zero, suc, ◌+◌, ◌*◌, ◌%◌, ◌^◌, ◌<◌, ◌-◌}
use native.Mathlib.Nat.{pow-succ', mod-one, mul-one, mul_assoc, add-mul, add_assoc, add-zero, mod-eq_of_lt}
use native.Mathlib.Omega.{arith}
use lib.Pow.{mod-pow-add}
use Rattle.words.specs.Bits.{bit}
use Rattle.report.specs.Text.{binary}
use Rattle.report.specs.Digits.{behind, worth}

-- the w + 1 low bits: bit w, then the w low ones
low_more : (v w : ℕ) → v % 2 ^ suc w ≡ bit v w * 2 ^ w + v % 2 ^ w
unfolding bit
low_more v w = let e : suc w ≡ 1 + w = omega arith in ap (λ k. v % 2 ^ k) e ∙ mod-pow-add v 1 w

digit_behind : (a v w : ℕ) → (a * 2 + (48 + bit v w - 48)) * 2 ^ w + v % 2 ^ w ≡ a * 2 ^ suc w + v % 2 ^ suc w
digit_behind a v w =
    let e : 48 + bit v w - 48 ≡ bit v w = omega arith in
    rw (e, add-mul (a * 2) (bit v w) (2 ^ w), low_more v w, pow-succ' 2 w, ← mul_assoc a 2 (2 ^ w)) (add_assoc (a * 2 * 2 ^ w) (bit v w * 2 ^ w) (v % 2 ^ w))

binary_behind : (w v a : ℕ) → behind 2 a (binary w v) ≡ a * 2 ^ w + v % 2 ^ w
unfolding behind binary
binary_behind zero v a = rw (mod-one v, mul-one a, add-zero a)
binary_behind (suc w) v a = binary_behind w v (a * 2 + (48 + bit v w - 48)) ∙ digit_behind a v w

pub binary_worth : (w v : ℕ) → v < 2 ^ w → worth 2 (binary w v) ≡ v
binary_worth w v h = binary_behind w v 0 ∙ (omega (arith, mod-eq_of_lt h))
