-- All values between two bounds of d bits, from the lowest bit on.
use mathlib.Core.Path.{◌≡◌, subst}
use mathlib.Core.List.{List, [], ◌∷◌, ◌++◌, map}
use Prim.Native.Nat.{ℕ, zero, suc, ◌+◌, ◌*◌, ◌/◌, ◌%◌, ◌^◌, ◌≤◌, ◌<◌}
use native.Mathlib.Omega.{arith}
use Rattle.words.specs.Bits.{◌⊑◌}
use Rattle.words.proofs.Order.{⊑_low, ⊑_half}
use Rattle.lists.specs.Every.{Any, here}
use Rattle.lists.proofs.Every.{any_left, any_right, any_map}

-- one bit put below each value: the bit that both bounds have, or both bits where it is open
abbrev pub spread_bit : ℕ → ℕ → List ℕ → List ℕ
spread_bit zero zero vs = map (λ v. v * 2) vs
spread_bit zero (suc h) vs = map (λ v. v * 2) vs ++ map (λ v. v * 2 + 1) vs
spread_bit (suc l) h vs = map (λ v. v * 2 + 1) vs

unfoldable pub choices : ℕ → ℕ → ℕ → List ℕ
choices zero lo hi = 0 ∷ []
choices (suc d) lo hi = spread_bit (lo % 2) (hi % 2) (choices d (lo / 2) (hi / 2))

spread_any : (l h b : ℕ) (vs : List ℕ) (q : ℕ) → l ≤ b → b ≤ h → b < 2 → Any (λ v. q ≡ v) vs → Any (λ v. q * 2 + b ≡ v) (spread_bit l h vs)
spread_any zero zero b vs q p r s a = any_map (λ v. v * 2) (λ v e. omega arith) a
spread_any zero (suc h) zero vs q p r s a = any_left _ (any_map (λ v. v * 2) (λ v e. omega arith) a)
spread_any zero (suc h) (suc b) vs q p r s a = any_right (map (λ v. v * 2) vs) (any_map (λ v. v * 2 + 1) (λ v e. omega arith) a)
spread_any (suc l) h b vs q p r s a = any_map (λ v. v * 2 + 1) (λ v e. omega arith) a

-- they are all
pub choices_all : (d lo hi v : ℕ) → v < 2 ^ d → lo ⊑ v → v ⊑ hi → Any (λ x. v ≡ x) (choices d lo hi)
unfolding choices
choices_all zero lo hi v l p q = here {x = 0} (omega arith)
choices_all (suc d) lo hi v l p q =
    let e : v / 2 * 2 + v % 2 ≡ v = omega arith in
    let rest = choices_all d (lo / 2) (hi / 2) (v / 2) (omega arith) (⊑_half p) (⊑_half q) in
    subst (λ (y : ℕ). Any (λ x. y ≡ x) (choices (suc d) lo hi)) e
    (spread_any (lo % 2) (hi % 2) (v % 2) _ (v / 2) (⊑_low p) (⊑_low q) (omega arith) rest)
