-- Digits are told apart from what follows them, so that a text begins with one number at most.
use mathlib.Core.Path.{◌≡◌, refl, sym, ap, subst, ◌∙◌}
use mathlib.Core.Bool.{Bool, true, false}
use mathlib.Core.List.{List, [], ◌∷◌, ◌++◌}
use Prim.Native.Nat.{ℕ, zero, suc, ◌+◌, ◌*◌, ◌/◌, ◌%◌, ◌^◌, ◌<◌, ◌-◌}
use native.Mathlib.Omega.{arith}
use borrow.Author.Tests.{ltb-true, ltb-false}
use lib.Dec.{ltb}
use lib.ListN.{length, get_or}
use Rattle.decimal.specs.Text.{digits, decimal}
use Rattle.decimal.specs.Digits.{Digit, Stops}
use Rattle.decimal.proofs.Decimals.{digits_one, digits_more, decimal_one}
use Rattle.decimal.proofs.Values.{value, decimal_value, value_behind, decimal_some, decimal_head}

abbrev Digits : List ℕ → Type 0
Digits [] = Unit {0}
Digits (x ∷ xs) = Digit x × Digits xs

digits_both : (xs ys : List ℕ) → Digits xs → Digits ys → Digits (xs ++ ys)
digits_both [] ys a b = b
digits_both (x ∷ xs) ys a b = (a.0, digits_both xs ys a.1 b)

last_digit : (n : ℕ) → n < 10 → Digits ((48 + n) ∷ [])
last_digit n h = (record { low = omega arith; high = omega arith }, tt)

digits_all : (k n : ℕ) → Digits (digits k n)
unfolding digits
digits_all zero n = tt
digits_all (suc k) n = go (ltb n 10) refl (digits_all k (n / 10))
  where
    go : (t : Bool) → ltb n 10 ≡ t → Digits (digits k (n / 10)) → Digits (digits (suc k) n)
    go true e tenth = rw (digits_one k n (ltb-true n 10 e)) (last_digit n (ltb-true n 10 e))
    go false e tenth = rw (digits_more k n (ltb-false n 10 e)) (digits_both (digits k (n / 10)) _ tenth (last_digit (n % 10) (omega arith)))

decimal_digits : (n : ℕ) → Digits (decimal n)
unfolding decimal
decimal_digits n = digits_all 20 n

-- a text that begins with a number begins with a digit
first_digit : (xs t : List ℕ) → Digits xs → 0 < length xs → Digit (get_or (xs ++ t) 0 0)
first_digit [] t a h = absurd (omega arith)
first_digit (x ∷ xs) t a h = a.0

pub decimal_first : (v : ℕ) (t : List ℕ) → Digit (get_or (decimal v ++ t) 0 0)
decimal_first v t = first_digit (decimal v) t (decimal_digits v) (decimal_some v)

-- digits with a text behind them that begins with none
apart : (xs ys s t : List ℕ) → Digits xs → Digits ys → Stops s → Stops t → xs ++ s ≡ ys ++ t → (xs ≡ ys) × (s ≡ t)
apart [] [] s t a b c d e = (refl, e)
apart [] (y ∷ ys) s t a b c d e = absurd (subst Stops e c b.0)
apart (x ∷ xs) [] s t a b c d e = absurd (subst Stops (sym e) d a.0)
apart (x ∷ xs) (y ∷ ys) s t a b c d e = let p = apart xs ys s t a.1 b.1 c d (cc) in let q = p.0 in (cc, p.1)

-- digits with one more digit behind them are the first of those that a text begins with
prefix : (xs ys s t : List ℕ) (x : ℕ) → Digits xs → Digit x → Digits ys → Stops t → xs ++ (x ∷ s) ≡ ys ++ t → (zs : List ℕ) × (ys ≡ xs ++ (x ∷ zs))
prefix [] [] s t x a d b c e = absurd (subst Stops (sym e) c d)
prefix [] (y ∷ ys) s t x a d b c e = (ys, cc)
prefix (w ∷ xs) [] s t x a d b c e = absurd (subst Stops (sym e) c a.0)
prefix (w ∷ xs) (y ∷ ys) s t x a d b c e = let p = prefix xs ys s t x a.1 d b.1 c (cc) in let q = p.1 in (p.0, cc)

pub number_once : (v w : ℕ) (s t : List ℕ) → v < 2 ^ 64 → w < 2 ^ 64 → Stops s → Stops t → decimal v ++ s ≡ decimal w ++ t → (v ≡ w) × (s ≡ t)
number_once v w s t a b c d e =
    let p = apart (decimal v) (decimal w) s t (decimal_digits v) (decimal_digits w) c d e in
    (sym (decimal_value v a) ∙ ap (value 0) p.0 ∙ decimal_value w b, p.1)

-- where a digit follows a number, the text may begin with a number only if the first is not 0 and the two make one that fits
pub number_goes : (v w x : ℕ) (s t : List ℕ) → v < 2 ^ 64 → w < 2 ^ 64 → Digit x → Stops t → decimal v ++ (x ∷ s) ≡ decimal w ++ t
    → (0 < v) × (v * 10 + (x - 48) < 2 ^ 64)
number_goes v w x s t a b d c e =
    let p = prefix (decimal v) (decimal w) s t x (decimal_digits v) d (decimal_digits w) c e in
    let same : value 0 (decimal w) ≡ w = decimal_value w b in
    let more : value 0 (decimal w) ≡ value 0 (decimal v ++ (x ∷ p.0)) = ap (value 0) p.1 in
    (go v p.0 p.1, omega (arith, value_behind v x p.0 a, same, more))
  where
    first : (k : ℕ) (zs : List ℕ) → decimal k ≡ 48 ∷ x ∷ zs → k < 2 ^ 64 → ⊥
    first zero zs q h = omega (arith, ap length (sym (decimal_one 0 (omega arith)) ∙ q))
    first (suc k) zs q h = decimal_head (suc k) h (omega arith) (ap (λ (l : List ℕ). get_or l 0 0) q)

    go : (v : ℕ) (zs : List ℕ) → decimal w ≡ decimal v ++ (x ∷ zs) → 0 < v
    go zero zs q = absurd (first w zs (q ∙ ap (λ (l : List ℕ). l ++ (x ∷ zs)) (decimal_one 0 (omega arith))) b)
    go (suc v) zs q = omega arith
