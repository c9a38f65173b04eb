-- Between two bounds that are not equal a bit is open, and no more bits are open than the word has.
use mathlib.Core.Path.{◌≡◌, refl, ◌∙◌}
use mathlib.Core.Logic.{◌≢◌}
use Prim.Native.Nat.{ℕ, zero, suc, ◌+◌, ◌/◌, ◌%◌, ◌≤◌}
use native.Mathlib.Omega.{arith}
use lib.Bits.{bit_xor, xor_lt}
use lib.Count.{ones-le}
use Rattle.words.specs.Bits.{bit, ◌⊑◌}
use Rattle.words.specs.Word.{Bounded, open_in}
use Rattle.words.proofs.Order.{bit_zero, bit_suc, ⊑_half, ⊑_low, ⊑_le}

-- a bit that b has and a has not
pub open_between : {a b : ℕ} → a ⊑ b → a ≢ b → (j : ℕ) × (bit a j ≡ 0) × (bit b j ≡ 1)
open_between {a} {b} h d = go (a + b) a b (omega arith) h d
  where
    go : (f x y : ℕ) → x + y ≤ f → x ⊑ y → x ≢ y → (j : ℕ) × (bit x j ≡ 0) × (bit y j ≡ 1)
    go zero x y l e n = absurd (n (omega arith))
    go (suc f) x y l e n = low (x % 2) (y % 2) refl refl (λ m. go f (x / 2) (y / 2) (omega arith) (⊑_half e) m)
      where
        low : (p q : ℕ) → x % 2 ≡ p → y % 2 ≡ q → (x / 2 ≢ y / 2 → (j : ℕ) × (bit (x / 2) j ≡ 0) × (bit (y / 2) j ≡ 1))
            → (j : ℕ) × (bit x j ≡ 0) × (bit y j ≡ 1)
        low zero (suc q) u v rest = (0, bit_zero x ∙ u, bit_zero y ∙ omega arith)
        low zero zero u v rest =
            let (j, off, on) = rest (λ m. n (omega arith)) in
            (suc j, bit_suc x j ∙ off, bit_suc y j ∙ on)
        low (suc p) q u v rest =
            let one : x % 2 ≤ y % 2 = ⊑_low e in
            let (j, off, on) = rest (λ m. n (omega arith)) in
            (suc j, bit_suc x j ∙ off, bit_suc y j ∙ on)

pub open_width : {w lo hi : ℕ} → Bounded w lo hi → open_in lo hi ≤ w
unfolding open_in
open_width {w} {lo} {hi} h = ones-le w (bit_xor lo hi) (xor_lt w lo hi (omega (arith, ⊑_le lo hi h.under, h.below)) h.below)
