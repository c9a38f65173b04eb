-- A number in decimal is that of its tenth, and its last digit.
use mathlib.Core.Path.{◌≡◌, refl, sym, ◌∙◌}
use mathlib.Core.Bool.{Bool, true, false}
use mathlib.Core.List.{[], ◌∷◌, ◌++◌}
use Prim.Native.Nat.{ℕ, zero, suc, ◌+◌, ◌*◌, ◌/◌, ◌%◌, ◌^◌, ◌≤◌, ◌<◌}
use native.Mathlib.Nat.{pow-suc}
use native.Mathlib.Omega.{arith}
use borrow.Author.Tests.{ltb-true, ltb-false, lt-ltb, le-ltb}
use lib.Dec.{ltb}
use lib.ListN.{length, length-append}
use Rattle.decimal.specs.Text.{digits, decimal}

pub digits_one : (k n : ℕ) → n < 10 → digits (suc k) n ≡ (48 + n) ∷ []
unfolding digits
digits_one k n h = rw (lt-ltb n 10 h)

pub digits_more : (k n : ℕ) → 10 ≤ n → digits (suc k) n ≡ digits k (n / 10) ++ ((48 + n % 10) ∷ [])
unfolding digits
digits_more k n h = rw (le-ltb n 10 h)

-- room for more digits changes nothing
digits_same : (k m n : ℕ) → n < 10 ^ suc k → n < 10 ^ suc m → digits (suc k) n ≡ digits (suc m) n
digits_same zero m n a b = digits_one zero n (omega arith) ∙ sym (digits_one m n (omega arith))
digits_same (suc k) zero n a b = digits_one (suc k) n (omega arith) ∙ sym (digits_one zero n (omega arith))
digits_same (suc k) (suc m) n a b =
    go (ltb n 10) refl (digits_same k m (n / 10) (omega (arith, pow-suc 10 (suc k))) (omega (arith, pow-suc 10 (suc m))))
  where
    go : (t : Bool) → ltb n 10 ≡ t → digits (suc k) (n / 10) ≡ digits (suc m) (n / 10) → digits (suc (suc k)) n ≡ digits (suc (suc m)) n
    go true e same = digits_one (suc k) n (ltb-true n 10 e) ∙ sym (digits_one (suc m) n (ltb-true n 10 e))
    go false e same = rw (digits_more (suc k) n (ltb-false n 10 e), digits_more (suc m) n (ltb-false n 10 e), same)

pub decimal_one : (n : ℕ) → n < 10 → decimal n ≡ (48 + n) ∷ []
unfolding decimal
decimal_one n h = digits_one 19 n h

pub decimal_more : (n : ℕ) → 10 ≤ n → n < 2 ^ 64 → decimal n ≡ decimal (n / 10) ++ ((48 + n % 10) ∷ [])
unfolding decimal
decimal_more n h l = rw (digits_more 19 n h, digits_same 18 19 (n / 10) (omega arith) (omega arith))

-- a digit behind a number
pub decimal_push : (v d : ℕ) → 0 < v → d < 10 → v * 10 + d < 2 ^ 64 → decimal (v * 10 + d) ≡ decimal v ++ ((48 + d) ∷ [])
decimal_push v d pos h l =
    let tenth : (v * 10 + d) / 10 ≡ v = omega arith in
    let last : (v * 10 + d) % 10 ≡ d = omega arith in
    decimal_more (v * 10 + d) (omega arith) l ∙ rw (tenth, last)

-- no more than k digits
digits_length : (k n : ℕ) → length (digits k n) ≤ k
unfolding digits
digits_length zero n = omega arith
digits_length (suc k) n = go (ltb n 10) refl (digits_length k (n / 10))
  where
    go : (t : Bool) → ltb n 10 ≡ t → length (digits k (n / 10)) ≤ k → length (digits (suc k) n) ≤ suc k
    go true e h = rw (digits_one k n (ltb-true n 10 e)) (omega arith)
    go false e h = rw (digits_more k n (ltb-false n 10 e)) (omega (arith, length-append (digits k (n / 10)) ((48 + n % 10) ∷ [])))

pub decimal_length : (n : ℕ) → length (decimal n) ≤ 20
unfolding decimal
decimal_length n = digits_length 20 n

-- and one more than its tenth
pub decimal_longer : (n : ℕ) → 10 ≤ n → n < 2 ^ 64 → length (decimal n) ≡ length (decimal (n / 10)) + 1
decimal_longer n h small = rw (decimal_more n h small) (length-append (decimal (n / 10)) ((48 + n % 10) ∷ []))

-- and no more than k where it is below 10^k
pub decimal_below : (k n : ℕ) → n < 10 ^ suc k → n < 2 ^ 64 → length (decimal n) ≤ suc k
unfolding decimal
decimal_below k n h small = rw (digits_same 19 k n (omega arith) h) (digits_length (suc k) n)
