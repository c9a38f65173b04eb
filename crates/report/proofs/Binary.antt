-- A value in binary: how many digits, which, and one more of them put down.
use mathlib.Core.Path.{◌≡◌, refl, sym, ap, ◌∙◌}
use mathlib.Core.List.{List}
use Prim.Native.Nat.{ℕ, zero, suc, ◌+◌, ◌/◌, ◌%◌, ◌^◌, ◌≤◌, ◌<◌, ◌-◌}
use native.Mathlib.Omega.{arith}
use lib.ListN.{length, get_or}
use lib.Seq.{ext_get_or, drop-drop}
use borrow.Rule.Slice.PartMut.{put_mid}
use Rattle.words.specs.Bits.{bit}
use Rattle.decimal.specs.Putting.{Appended}
use Rattle.report.specs.Text.{binary}

pub length_binary : (w v : ℕ) → length (binary w v) ≡ w
unfolding binary
length_binary zero v = refl
length_binary (suc w) v = ap suc (length_binary w v)

-- digit i is that of bit w - 1 - i
pub binary_at : (w v i : ℕ) → i < w → get_or (binary w v) i 0 ≡ 48 + bit v (w - 1 - i)
unfolding binary
binary_at zero v i h = absurd (omega arith)
binary_at (suc w) v zero h = let e : w ≡ suc w - 1 - 0 = omega arith in ap (λ j. 48 + bit v j) e
binary_at (suc w) v (suc i) h =
    let e : w - 1 - i ≡ suc w - 1 - suc i = omega arith in
    binary_at w v i (omega arith) ∙ ap (λ j. 48 + bit v j) e

-- the digits put down
pub binary_put : (f ys : List ℕ) (a w v : ℕ) → a + w ≤ length f → length ys ≡ w
    → ((i : ℕ) → i < w → get_or ys i 0 ≡ 48 + v / 2 ^ (w - 1 - i) % 2) → Appended f a (binary w v) (put_mid a (a + w - a) f ys) (a + w)
unfolding bit
binary_put f ys a w v room n h =
    let e : a + w - a ≡ w = omega arith in
    let same : ys ≡ binary w v = ext_get_or 0 ys (binary w v) (n ∙ sym (length_binary w v)) (λ i l. h i (omega arith) ∙ sym (binary_at w v i (omega arith))) in
    record { ends = ap (λ k. a + k) (sym (length_binary w v)); room = room; text = rw (e, drop-drop, same, length_binary) refl }
