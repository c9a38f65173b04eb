-- A number made of its bytes, the lowest first.
use mathlib.Core.Path.{◌≡◌, refl, ◌∙◌}
use mathlib.Core.List.{List, [], ◌∷◌}
use Prim.Native.Nat.{ℕ, zero, suc, ◌+◌, ◌*◌, ◌≤◌, ◌-◌}
use native.Mathlib.Omega.{arith}
use lib.ListN.{length, take, drop, drop_of_length-le}
use Rattle.std.proofs.Common.{Result, Ok, MatchResult}
use Rattle.std.specs.Array.{IsWholeChunk}
use Rattle.lists.specs.Lists.{at, part}
use Rattle.blocks.specs.Bytes.{from_le}
use Rattle.lists.proofs.Parts.{at_part, short_part}

-- from byte n on
le_at : (y : List ℕ) (n : ℕ) → from_le (drop n y) ≡ at y n + 256 * from_le (drop (suc n) y)
unfolding from_le
le_at [] zero = refl
le_at [] (suc n) = refl
le_at (x ∷ y) zero = refl
le_at (x ∷ y) (suc n) = le_at y n

le_past : (y : List ℕ) (n : ℕ) → length y ≤ n → from_le (drop n y) ≡ 0
unfolding from_le
le_past y n h = rw (drop_of_length-le y h) refl

four_bytes : (y : List ℕ) → length y ≤ 4 → at y 0 + at y 1 * 256 + at y 2 * 65536 + at y 3 * 16777216 ≡ from_le y
four_bytes y h = omega (arith, le_at y 0, le_at y 1, le_at y 2, le_at y 3, le_past y 4 h)

pub limit_bytes : (b : List ℕ) → at b 8 + at b 9 * 256 + at b 10 * 65536 + at b 11 * 16777216 ≡ from_le (part b 8 4)
limit_bytes b =
    let p : at (part b 8 4) 0 ≡ at b 8 = at_part b 8 4 0 (omega arith) in
    let q : at (part b 8 4) 1 ≡ at b 9 = at_part b 8 4 1 (omega arith) in
    let r : at (part b 8 4) 2 ≡ at b 10 = at_part b 8 4 2 (omega arith) in
    let s : at (part b 8 4) 3 ≡ at b 11 = at_part b 8 4 3 (omega arith) in
    rw (← p, ← q, ← r, ← s) (four_bytes (part b 8 4) (short_part b 8 4))

pub eight_bytes : (y : List ℕ) → length y ≤ 8
    → at y 0 + at y 1 * 256 + at y 2 * 65536 + at y 3 * 16777216 + at y 4 * 4294967296 + at y 5 * 1099511627776 + at y 6 * 281474976710656
    + at y 7 * 72057594037927936
    ≡ from_le y
eight_bytes y h =
    omega (arith, le_at y 0, le_at y 1, le_at y 2, le_at y 3, le_at y 4, le_at y 5, le_at y 6, le_at y 7, le_past y 8 h)

-- eight bytes of a file as an array
pub eight_of : {E : Type 0} (b : List ℕ) (a : ℕ) (y : List ℕ) (r : Result (List ℕ) E) (Q : E → Type 0)
    → MatchResult r (λ z. IsWholeChunk (take (a + 8 - a) (drop a b)) z 8) Q → r ≡ Ok y → y ≡ part b a 8
unfolding part
eight_of b a y r Q m e =
    let w : IsWholeChunk (take (a + 8 - a) (drop a b)) y 8 = rw e at m in
    let n : a + 8 - a ≡ 8 = omega arith in
    w.same ∙ rw n refl
