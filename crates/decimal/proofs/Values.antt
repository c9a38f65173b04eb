-- The value of digits: that of a number in decimal is the number, and a number but 0 begins with no 0.
use mathlib.Core.Path.{◌≡◌, refl, sym, ◌∙◌}
use mathlib.Core.Bool.{Bool, true, false}
use mathlib.Core.List.{List, [], ◌∷◌, ◌++◌}
use Prim.Native.Nat.{ℕ, zero, suc, ◌+◌, ◌*◌, ◌/◌, ◌%◌, ◌^◌, ◌≤◌, ◌<◌, ◌-◌}
use native.Mathlib.Nat.{pow-suc}
use native.Mathlib.Omega.{arith}
use borrow.Author.Tests.{ltb-true, ltb-false}
use lib.Dec.{ltb}
use lib.ListN.{length, get_or, length-append, get_or-append}
use Rattle.decimal.specs.Text.{digits, decimal}
use Rattle.decimal.proofs.Decimals.{digits_one, digits_more}

-- the digits xs behind the number n
abbrev pub value : ℕ → List ℕ → ℕ
value n [] = n
value n (x ∷ xs) = value (n * 10 + (x - 48)) xs

value_append : (n : ℕ) (xs ys : List ℕ) → value n (xs ++ ys) ≡ value (value n xs) ys
value_append n [] ys = refl
value_append n (x ∷ xs) ys = value_append (n * 10 + (x - 48)) xs ys

pub value_grows : (n : ℕ) (xs : List ℕ) → n ≤ value n xs
value_grows n [] = omega arith
value_grows n (x ∷ xs) = omega (arith, value_grows (n * 10 + (x - 48)) xs)

digits_value : (k n : ℕ) → n < 10 ^ k → value 0 (digits k n) ≡ n
unfolding digits
digits_value zero n h = omega arith
digits_value (suc k) n h = go (ltb n 10) refl (digits_value k (n / 10) (omega (arith, pow-suc 10 k)))
  where
    go : (t : Bool) → ltb n 10 ≡ t → value 0 (digits k (n / 10)) ≡ n / 10 → value 0 (digits (suc k) n) ≡ n
    go true e tenth = rw (digits_one k n (ltb-true n 10 e)) (omega arith)
    go false e tenth = rw (digits_more k n (ltb-false n 10 e), value_append 0 (digits k (n / 10)), tenth) (omega arith)

pub decimal_value : (n : ℕ) → n < 2 ^ 64 → value 0 (decimal n) ≡ n
unfolding decimal
decimal_value n h = digits_value 20 n (omega arith)

-- what follows the digits of a number, if they are more, makes it greater
pub value_behind : (n : ℕ) (x : ℕ) (ys : List ℕ) → n < 2 ^ 64 → n * 10 + (x - 48) ≤ value 0 (decimal n ++ (x ∷ ys))
value_behind n x ys h = rw (value_append 0 (decimal n) (x ∷ ys), decimal_value n h) (value_grows (n * 10 + (x - 48)) ys)

-- ---- no 0 in front

digits_some : (k n : ℕ) → 0 < length (digits (suc k) n)
digits_some k n = go (ltb n 10) refl
  where
    go : (t : Bool) → ltb n 10 ≡ t → 0 < length (digits (suc k) n)
    go true e = rw (digits_one k n (ltb-true n 10 e)) (omega arith)
    go false e = rw (digits_more k n (ltb-false n 10 e)) (omega (arith, length-append (digits k (n / 10)) ((48 + n % 10) ∷ [])))

pub decimal_some : (n : ℕ) → 0 < length (decimal n)
unfolding decimal
decimal_some n = digits_some 19 n

digits_long : (k n : ℕ) → n < 10 ^ k → 0 < n → 0 < length (digits k n)
digits_long zero n h p = absurd (omega arith)
digits_long (suc k) n h p = digits_some k n

digits_head : (k n : ℕ) → n < 10 ^ k → 0 < n → ¬ (get_or (digits k n) 0 0 ≡ 48)
digits_head zero n h p e = omega arith
digits_head (suc k) n h p e = go (ltb n 10) refl (digits_head k (n / 10))
  where
    go : (t : Bool) → ltb n 10 ≡ t → (n / 10 < 10 ^ k → 0 < n / 10 → ¬ (get_or (digits k (n / 10)) 0 0 ≡ 48)) → ⊥
    go true q tenth = omega (arith, rw (digits_one k n (ltb-true n 10 q)) at e)
    go false q tenth =
        let big = ltb-false n 10 q in
        let small : n / 10 < 10 ^ k = omega (arith, pow-suc 10 k) in
        let same = get_or-append (digits k (n / 10)) ((48 + n % 10) ∷ []) 0 0 (digits_long k (n / 10) small (omega arith)) in
        tenth small (omega arith) (sym same ∙ (rw (digits_more k n big) at e))

pub decimal_head : (n : ℕ) → n < 2 ^ 64 → 0 < n → ¬ (get_or (decimal n) 0 0 ≡ 48)
unfolding decimal
decimal_head n h p e = digits_head 20 n (omega arith) p e
