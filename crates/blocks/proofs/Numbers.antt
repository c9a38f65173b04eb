-- Little-endian numbers: the bytes of a number and the number of bytes are each other's inverse.
use Rattle.std.proofs.Common.{◌≡◌, ℕ, zero, suc, ◌+◌, ◌*◌, ◌/◌, ◌%◌, ◌^◌, ◌<◌, ◌≤◌, List, [], ◌∷◌, length, sym, refl, ap, subst, pow-suc, arith}
use native.Mathlib.Nat.{one-le-pow}
use Rattle.blocks.specs.Bytes.{le, from_le}
use Rattle.lists.specs.Lists.{part, Under}
use Rattle.lists.proofs.Parts.{length_part}
use Rattle.lists.proofs.Unders.{under_part}

pub length_le : (k x : ℕ) → length (le k x) ≡ k
unfolding le
length_le zero x = refl
length_le (suc k) x = ap suc (length_le k (x / 256))

pub number_le : (k x : ℕ) → x < 256 ^ k → from_le (le k x) ≡ x
unfolding le from_le
number_le zero x h = omega arith
number_le (suc k) x h = let e = number_le k (x / 256) (omega (arith, pow-suc 256 k)) in omega arith

tail_under : (a : ℕ) (r : List ℕ) → Under 256 (a ∷ r) → Under 256 r
tail_under a r u = record { each = λ i. u.each (suc i) }

pub le_number : (l : List ℕ) → Under 256 l → le (length l) (from_le l) ≡ l
unfolding le from_le
le_number [] u = refl
le_number (a ∷ r) u =
    let low : (a + 256 * from_le r) % 256 ≡ a = omega (arith, u.each 0) in
    let high : (a + 256 * from_le r) / 256 ≡ from_le r = omega (arith, u.each 0) in
    rw (low, high, le_number r (tail_under a r u))

pub number_under : (k : ℕ) (l : List ℕ) → length l ≤ k → Under 256 l → from_le l < 256 ^ k
unfolding from_le
number_under zero [] h u = omega arith
number_under zero (x ∷ xs) h u = absurd (omega arith)
number_under (suc k) [] h u = omega (arith, one-le-pow k 256 (omega arith))
number_under (suc k) (x ∷ xs) h u = omega (arith, u.each 0, pow-suc 256 k, number_under k xs (omega arith) (tail_under x xs u))

-- bytes of a list are those of the number that they make
pub part_le : (l : List ℕ) (a k : ℕ) → Under 256 l → a + k ≤ length l → part l a k ≡ le k (from_le (part l a k))
part_le l a k u h =
    sym (subst (λ m. le m (from_le (part l a k)) ≡ part l a k) (length_part l a k h) (le_number (part l a k) (under_part 256 l a k (omega arith) u)))

-- the two bytes of a number of two bytes
pub low_byte : (x y i : ℕ) → x < 256 → x + 256 * y ≡ i → x ≡ i % 256
low_byte x y i p e = rw (← e) (sym (low x y p))
  where
    low : (x y : ℕ) → x < 256 → (x + 256 * y) % 256 ≡ x
    low x y p = omega arith

pub high_byte : (x y i : ℕ) → x < 256 → y < 256 → x + 256 * y ≡ i → y ≡ i / 256 % 256
high_byte x y i p q e = rw (← e) (sym (high x y p q))
  where
    high : (x y : ℕ) → x < 256 → y < 256 → (x + 256 * y) / 256 % 256 ≡ y
    high x y p q = omega arith
