-- Each computing kind is SMT-LIB's own, over what that kind needs: no law asks for a place that the kind does not use, and none for a bound on k.
use mathlib.Core.Path.{◌≡◌, refl, sym, ap, ◌∙◌}
use mathlib.Core.Logic.{◌⊎◌, inl, inr}
use Prim.Native.Nat.{ℕ, zero, suc, ◌+◌, ◌*◌, ◌/◌, ◌%◌, ◌^◌, ◌≤◌, ◌<◌, min, max, ◌-◌}
use native.Mathlib.Nat.{mod-lt, mod-eq_of_lt, mod-add-div', add-mod, add-mul, add-mul-mod_self_right, mul-mod_left, mul_assoc, mul_right_comm}
use native.Mathlib.Nat.{div-eq_of_lt, lt_of_le_of_lt, lt_of_lt_of_le}
use native.Mathlib.Omega.{arith}
use native.Mathlib.Decide.{dec_lt}
use lib.Arith.{digits_lt}
use lib.Bits.{bit_and, bit_or, bit_xor, and_le_l, or_lt, xor_lt}
use lib.Pow.{pow_pos, pow-add, pow_mono, ones_sub-lt, shr_le}
use borrow.Author.Tests.{lt-ltb, le-ltb}
use Rattle.words.specs.Bits.{bit}
use Rattle.words.proofs.Order.{bit_lt, bit_cases}
use Rattle.words.proofs.Ops.{bit_and_lem, bit_or_lem, bit_xor_lem, bit_not, bit_shr, bit_mod_low, bit_join_low, bit_join_high}
use Rattle.rules.specs.Kinds.{Place, R, A, B, COPY, NOT, AND, OR, XOR, ADD, ITE, SLICE, JOIN, SHL, SHR}
use Rattle.rules.specs.Meaning.{choose, result}
use Rattle.rules.specs.SmtLib.{bv2nat, concat, bvnot, bvand, bvor, bvxor, ite, denoted}
use Rattle.rules.proofs.SmtLibNumbers.{bv2nat_mod, bv2nat_bits, bv2nat_nat2bv, number_of}

-- ---- bit by bit

-- a fact of 0 and of 1 is a fact of each bit
at_bit : (P : ℕ → Type 0) (n x : ℕ) → P 0 → P 1 → P (bit n x)
at_bit P n x p q = go (bit_cases n x)
  where
    go : (bit n x ≡ 0) ⊎ (bit n x ≡ 1) → P (bit n x)
    go (inl z) = rw z p
    go (inr o) = rw o q

not_bits : (m a x : ℕ) → a < 2 ^ m → x < m → bit (2 ^ m - 1 - a) x ≡ bvnot (bit a) x
not_bits m a x l i = bit_not m a x l i ∙ at_bit (λ y. 1 - y ≡ bvnot (λ i. y) x) a x refl refl

and_bits : (a b x : ℕ) → bit (bit_and a b) x ≡ bvand (bit a) (bit b) x
and_bits a b x = bit_and_lem x a b ∙ at_bit (λ y. min y (bit b x) ≡ bvand (λ i. y) (bit b) x) a x (omega arith) (omega (arith, bit_lt b x))

or_bits : (a b x : ℕ) → bit (bit_or a b) x ≡ bvor (bit a) (bit b) x
or_bits a b x = bit_or_lem x a b ∙ at_bit (λ y. max y (bit b x) ≡ bvor (λ i. y) (bit b) x) a x (omega arith) (omega (arith, bit_lt b x))

xor_bits : (a b x : ℕ) → bit (bit_xor a b) x ≡ bvxor (bit a) (bit b) x
xor_bits a b x =
    bit_xor_lem x a b ∙ at_bit (λ y. max y (bit b x) - min y (bit b x) ≡ bvxor (λ i. y) (bit b) x) a x
    (at_bit (λ z. max 0 z - min 0 z ≡ bvxor (λ i. 0) (λ i. z) x) b x refl refl)
    (at_bit (λ z. max 1 z - min 1 z ≡ bvxor (λ i. 1) (λ i. z) x) b x refl refl)

ite_bits : (s a b x : ℕ) → s < 2 → bit (choose s a b) x ≡ ite (bit s) (bit a) (bit b) x
unfolding bit
ite_bits zero a b x l = refl
ite_bits (suc zero) a b x l = refl
ite_bits (suc (suc s)) a b x l = absurd (omega arith)

join_bits : (m a b x : ℕ) → b < 2 ^ m → bit (a * 2 ^ m + b) x ≡ concat m (bit a) (bit b) x
join_bits m a b x l = go (dec_lt x m)
  where
    go : Dec (x < m) → bit (a * 2 ^ m + b) x ≡ concat m (bit a) (bit b) x
    go (yes k) = rw (lt-ltb x m k) (bit_join_low a b m x k)
    go (no n) =
        let e : m + (x - m) ≡ x = omega arith in
        rw (le-ltb x m (omega arith)) (ap (λ (y : ℕ). bit (a * 2 ^ m + b) y) (sym e) ∙ bit_join_high a b m (x - m) l)

mul_mod : (a c n : ℕ) → a * c % n ≡ a % n * c % n
mul_mod a c n =
    let split : a * c ≡ (a % n + a / n * n) * c = ap (λ (x : ℕ). x * c) (sym (mod-add-div' a n)) in
    let e : a * c ≡ a % n * c + a / n * c * n = split ∙ add-mul (a % n) (a / n * n) c ∙ rw (mul_right_comm (a / n) n c) in
    ap (λ (x : ℕ). x % n) e ∙ add-mul-mod_self_right (a % n * c) (a / n * c) n

-- ---- each kind, over what it needs

module _ (w : Place → ℕ) (k a b s : ℕ) where
  pub copy_smtlib : a < 2 ^ w R → result COPY w k a b s ≡ bv2nat (w R) (denoted COPY w k (bit a) (bit b) (bit s))
  copy_smtlib l = sym (bv2nat_bits (w R) a l)

  pub not_smtlib : a < 2 ^ w R → result NOT w k a b s ≡ bv2nat (w R) (denoted NOT w k (bit a) (bit b) (bit s))
  not_smtlib l = number_of (w R) _ _ (ones_sub-lt (w R) a) (λ x. not_bits (w R) a x l)

  pub and_smtlib : a < 2 ^ w R → result AND w k a b s ≡ bv2nat (w R) (denoted AND w k (bit a) (bit b) (bit s))
  and_smtlib l = number_of (w R) _ _ (lt_of_le_of_lt (and_le_l a b) l) (λ x i. and_bits a b x)

  pub or_smtlib : a < 2 ^ w R → b < 2 ^ w R → result OR w k a b s ≡ bv2nat (w R) (denoted OR w k (bit a) (bit b) (bit s))
  or_smtlib l m = number_of (w R) _ _ (or_lt (w R) a b l m) (λ x i. or_bits a b x)

  pub xor_smtlib : a < 2 ^ w R → b < 2 ^ w R → result XOR w k a b s ≡ bv2nat (w R) (denoted XOR w k (bit a) (bit b) (bit s))
  xor_smtlib l m = number_of (w R) _ _ (xor_lt (w R) a b l m) (λ x i. xor_bits a b x)

  pub add_smtlib : result ADD w k a b s ≡ bv2nat (w R) (denoted ADD w k (bit a) (bit b) (bit s))
  add_smtlib = rw (bv2nat_nat2bv, bv2nat_mod (w R) a, bv2nat_mod (w R) b) (add-mod a b (2 ^ w R))

  pub ite_smtlib : a < 2 ^ w R → b < 2 ^ w R → s < 2 → result ITE w k a b s ≡ bv2nat (w R) (denoted ITE w k (bit a) (bit b) (bit s))
  ite_smtlib l m n = number_of (w R) _ _ (chosen s) (λ x i. ite_bits s a b x n)
    where
      chosen : (c : ℕ) → choose c a b < 2 ^ w R
      chosen zero = m
      chosen (suc c) = l

  pub slice_smtlib : result SLICE w k a b s ≡ bv2nat (w R) (denoted SLICE w k (bit a) (bit b) (bit s))
  slice_smtlib = number_of (w R) _ _ (mod-lt (a / 2 ^ k) (pow_pos (w R))) (λ x i. bit_mod_low (a / 2 ^ k) (w R) x i ∙ bit_shr a k x)

  pub join_smtlib : w R ≡ w A + w B → a < 2 ^ w A → b < 2 ^ w B → result JOIN w k a b s ≡ bv2nat (w R) (denoted JOIN w k (bit a) (bit b) (bit s))
  join_smtlib e l m = number_of (w R) _ _ (rw (e, pow-add) (digits_lt l m)) (λ x i. join_bits (w B) a b x m)

  -- for every k, also at and above the width
  pub shl_smtlib : result SHL w k a b s ≡ bv2nat (w R) (denoted SHL w k (bit a) (bit b) (bit s))
  shl_smtlib = rw (bv2nat_nat2bv, bv2nat_mod (w R) a) (mul_mod a (2 ^ k) (2 ^ w R))

  pub shr_smtlib : a < 2 ^ w R → result SHR w k a b s ≡ bv2nat (w R) (denoted SHR w k (bit a) (bit b) (bit s))
  shr_smtlib l = rw (bv2nat_nat2bv, bv2nat_bits (w R) a l) (sym (mod-eq_of_lt (lt_of_le_of_lt (shr_le a k) l)))

  -- a shift by the width or more gives 0
  pub shl_out : w R ≤ k → result SHL w k a b s ≡ 0
  shl_out l =
      let e : 2 ^ k ≡ 2 ^ (k - w R) * 2 ^ w R = ap (λ (n : ℕ). 2 ^ n) (omega arith) ∙ pow-add 2 (k - w R) (w R) in
      rw (e, ← mul_assoc) (mul-mod_left (a * 2 ^ (k - w R)) (2 ^ w R))

  pub shr_out : a < 2 ^ w R → w R ≤ k → result SHR w k a b s ≡ 0
  shr_out l h = div-eq_of_lt (lt_of_lt_of_le l (pow_mono h))
