-- What a test tells.
use mathlib.Core.Path.{◌≡◌}
use mathlib.Core.Bool.{Bool, true, false}
use Prim.Native.Nat.{ℕ}
use native.Mathlib.Omega.{arith}
use Rattle.lists.specs.Tests.{Decides, holds, fails}

pub decided : {P : Type 0} {r : Bool} → Decides P r → r ≡ true → P
decided (holds p) e = p
decided (fails n) e = let z : ◌≡◌ {A = ℕ} 0 1 = cc in absurd (omega arith)

pub refuted : {P : Type 0} {r : Bool} → Decides P r → r ≡ false → ¬ P
refuted (holds p) e = let z : ◌≡◌ {A = ℕ} 0 1 = cc in absurd (omega arith)
refuted (fails n) e = n

pub decides_as : {P Q : Type 0} {r : Bool} → (P → Q) → (Q → P) → Decides P r → Decides Q r
decides_as f g (holds p) = holds (f p)
decides_as f g (fails n) = fails (λ q. n (g q))
