-- Bit-vectors as numbers and back: `nat2bv` gives the one bit-vector that SMT-LIB asks for, and a number's own bits are the bit-vector of it.
use mathlib.Core.Path.{◌≡◌, refl, sym, ap, ◌∙◌}
use Prim.Native.Nat.{ℕ, zero, suc, ◌/◌, ◌%◌, ◌^◌, ◌<◌}
use native.Mathlib.Nat.{mod-mod, mod-one, mod-eq_of_lt, add_comm, pow-suc}
use native.Mathlib.Omega.{arith}
use native.Mathlib.Numerals.{add-one}
use native.Mathlib.Decide.{ℕ_discrete}
use lib.Arith.{digits_lt, digits_div, digits_mod}
use lib.Pow.{mod-pow-add}
use Rattle.words.specs.Bits.{bit}
use Rattle.words.proofs.Order.{bit_lt}
use Rattle.rules.specs.SmtLib.{Vector, OfSize, Equal, bv2nat, nat2bv}

-- the bits of n below m make what is left of n by 2^m
pub bv2nat_mod : (m n : ℕ) → bv2nat m (bit n) ≡ n % 2 ^ m
unfolding bv2nat bit
bv2nat_mod zero n = sym (mod-one n)
bv2nat_mod (suc m) n = rw (bv2nat_mod m n, ← add-one m, add_comm m 1) (sym (mod-pow-add n 1 m))

pub bv2nat_bits : (m n : ℕ) → n < 2 ^ m → bv2nat m (bit n) ≡ n
bv2nat_bits m n l = bv2nat_mod m n ∙ mod-eq_of_lt l

pub bv2nat_nat2bv : (m n : ℕ) → bv2nat m (nat2bv m n) ≡ n % 2 ^ m
bv2nat_nat2bv m n = bv2nat_mod m (n % 2 ^ m) ∙ mod-mod n (2 ^ m)

-- so a shift's k below 2^m stands for an operand of size m, as SMT-LIB has it
pub nat2bv_number : (m n : ℕ) → n < 2 ^ m → bv2nat m (nat2bv m n) ≡ n
nat2bv_number m n l = bv2nat_nat2bv m n ∙ mod-eq_of_lt l

pub nat2bv_sized : (m n : ℕ) → OfSize m (nat2bv m n)
nat2bv_sized m n x l = bit_lt (n % 2 ^ m) x

pub bv2nat_lt : (m : ℕ) (b : Vector) → OfSize m b → bv2nat m b < 2 ^ m
unfolding bv2nat
bv2nat_lt zero b h = omega arith
bv2nat_lt (suc m) b h = omega (arith, pow-suc 2 m, digits_lt {m = 2} (h m (omega arith)) (bv2nat_lt m b (λ x l. h x (omega arith))))

-- bit-vectors that agree below m are one number
pub bv2nat_equal : (m : ℕ) (s t : Vector) → Equal m s t → bv2nat m s ≡ bv2nat m t
unfolding bv2nat
bv2nat_equal zero s t e = refl
bv2nat_equal (suc m) s t e = cc (e m (omega arith), bv2nat_equal m s t (λ x l. e x (omega arith)))

-- and bit-vectors of size m that are one number agree below m
pub nat2bv_unique : (m : ℕ) (s t : Vector) → OfSize m s → OfSize m t → bv2nat m s ≡ bv2nat m t → Equal m s t
unfolding bv2nat
nat2bv_unique zero s t p q e x l = absurd (omega arith)
nat2bv_unique (suc m) s t p q e x l = go (ℕ_discrete x m) (nat2bv_unique m s t below_s below_t same)
  where
    below_s : OfSize m s
    below_s y k = p y (omega arith)

    below_t : OfSize m t
    below_t y k = q y (omega arith)

    top : s m ≡ t m
    top =
        sym (digits_div (s m) (bv2nat_lt m s below_s)) ∙ ap (λ (n : ℕ). n / 2 ^ m) e ∙ digits_div (t m) (bv2nat_lt m t below_t)

    same : bv2nat m s ≡ bv2nat m t
    same =
        sym (digits_mod (s m) (bv2nat_lt m s below_s)) ∙ ap (λ (n : ℕ). n % 2 ^ m) e ∙ digits_mod (t m) (bv2nat_lt m t below_t)

    go : Dec (x ≡ m) → Equal m s t → s x ≡ t x
    go (yes d) h = rw d top
    go (no d) h = h x (omega arith)

-- a number below 2^m with the bits of a bit-vector is the number of it
pub number_of : (m n : ℕ) (b : Vector) → n < 2 ^ m → Equal m (bit n) b → n ≡ bv2nat m b
number_of m n b l e = sym (bv2nat_bits m n l) ∙ bv2nat_equal m (bit n) b e
