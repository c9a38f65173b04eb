-- The meaning of the fourteen kinds, `result` and `Compares`, is SMT-LIB's own: what a rule computes is the number of the bit-vector that SMT-LIB
-- denotes for the bits of its operands, and it compares as SMT-LIB does.
use mathlib.Core.Path.{◌≡◌, sym, ap, ◌∙◌}
use mathlib.Core.Logic.{◌⊎◌, inl, inr, ◌↔◌}
use mathlib.Core.Bool.{Bool, true, false}
use Prim.Native.Nat.{ℕ, ◌+◌, ◌*◌, ◌/◌, ◌^◌, ◌<◌, ◌-◌}
use native.Mathlib.Omega.{arith}
use native.Mathlib.Decide.{dec_lt}
use lib.Dec.{T, eqb}
use borrow.Author.Tests.{lt-ltb, le-ltb}
use Rattle.words.specs.Bits.{bit}
use Rattle.words.proofs.Order.{bit_lt}
use Rattle.rules.specs.Kinds.{Place, R, A, B, S, Op, COPY, NOT, AND, OR, XOR, ADD, ITE, SLICE, JOIN, SHL, SHR, Rel, ULE, ULT, NE, op}
use Rattle.rules.specs.Rows.{uses, Fitting}
use Rattle.rules.specs.Meaning.{result, Compares}
use Rattle.std.specs.Prelude.{if◌then◌else◌}
use Rattle.rules.specs.SmtLib.{Vector, OfSize, Equal, bv2nat, concat, bvnot, bvand, denoted, Denoted}
use Rattle.rules.proofs.SmtLibNumbers.{bv2nat_bits, bv2nat_equal, bv2nat_lt, nat2bv_sized}
use Rattle.rules.proofs.SmtLibKinds.{copy_smtlib, not_smtlib, and_smtlib, or_smtlib, xor_smtlib, add_smtlib, ite_smtlib, slice_smtlib, join_smtlib}
use Rattle.rules.proofs.SmtLibKinds.{shl_smtlib, shr_smtlib}

pub result_smtlib : (o : Op) (w : Place → ℕ) (k a b s : ℕ) → Fitting (op o) w k → a < 2 ^ w A → (T (uses (op o) B) → b < 2 ^ w B)
    → (T (uses (op o) S) → s < 2 ^ w S) → result o w k a b s ≡ bv2nat (w R) (denoted o w k (bit a) (bit b) (bit s))
result_smtlib COPY w k a b s e la lb ls = copy_smtlib w k a b s (rw e la)
result_smtlib NOT w k a b s e la lb ls = not_smtlib w k a b s (rw e la)
result_smtlib AND w k a b s e la lb ls = and_smtlib w k a b s (rw e.0 la)
result_smtlib OR w k a b s e la lb ls = or_smtlib w k a b s (rw e.0 la) (rw e.1 (lb tt))
result_smtlib XOR w k a b s e la lb ls = xor_smtlib w k a b s (rw e.0 la) (rw e.1 (lb tt))
result_smtlib ADD w k a b s e la lb ls = add_smtlib w k a b s
result_smtlib ITE w k a b s e la lb ls = ite_smtlib w k a b s (rw e.0 la) (rw e.1 (lb tt)) (rw e.2 at (ls tt))
result_smtlib SLICE w k a b s e la lb ls = slice_smtlib w k a b s
result_smtlib JOIN w k a b s e la lb ls = join_smtlib w k a b s e la (lb tt)
result_smtlib SHL w k a b s e la lb ls = shl_smtlib w k a b s
result_smtlib SHR w k a b s e la lb ls = shr_smtlib w k a b s (rw e la)

if_lt : (c : Bool) (x y : ℕ) → x < 2 → y < 2 → (if c then x else y) < 2
if_lt true x y p q = p
if_lt false x y p q = q

-- where widths fit, what SMT-LIB denotes for bit-vectors of the operands' sizes is a bit-vector of the size of r
pub denoted_sized : (o : Op) (w : Place → ℕ) (k : ℕ) (a b s : Vector) → Fitting (op o) w k → OfSize (w A) a → (T (uses (op o) B) → OfSize (w B) b)
    → (T (uses (op o) S) → OfSize (w S) s) → OfSize (w R) (denoted o w k a b s)
denoted_sized COPY w k a b s e p q r x l = p x (rw e at l)
denoted_sized NOT w k a b s e p q r x l = if_lt (eqb (a x) 0) 1 0 (omega arith) (omega arith)
denoted_sized AND w k a b s e p q r x l = if_lt (eqb (a x) 0) 0 (b x) (omega arith) (q tt x (rw e.1 at l))
denoted_sized OR w k a b s e p q r x l = if_lt (eqb (a x) 1) 1 (b x) (omega arith) (q tt x (rw e.1 at l))
denoted_sized XOR w k a b s e p q r x l =
    if_lt (eqb (bvand a (bvnot b) x) 1) 1 (bvand (bvnot a) b x) (omega arith) (if_lt (eqb (bvnot a x) 0) 0 (b x) (omega arith) (q tt x (rw e.1 at l)))
denoted_sized ADD w k a b s e p q r x l = nat2bv_sized (w R) (bv2nat (w R) a + bv2nat (w R) b) x l
denoted_sized ITE w k a b s e p q r x l = if_lt (eqb (s 0) 1) (a x) (b x) (p x (rw e.0 at l)) (q tt x (rw e.1 at l))
denoted_sized SLICE w k a b s e p q r x l = p (k + x) (omega arith)
denoted_sized JOIN w k a b s e p q r x l = go (dec_lt x (w B))
  where
    go : Dec (x < w B) → concat (w B) a b x < 2
    go (yes h) = rw (lt-ltb x (w B) h) (q tt x h)
    go (no h) = rw (le-ltb x (w B) (omega arith)) (p (x - w B) (omega arith))
denoted_sized SHL w k a b s e p q r x l = nat2bv_sized (w R) (bv2nat (w R) a * 2 ^ k) x l
denoted_sized SHR w k a b s e p q r x l = nat2bv_sized (w R) (bv2nat (w R) a / 2 ^ k) x l

-- so what a rule computes keeps to the width of its word r
pub result_small : (o : Op) (w : Place → ℕ) (k a b s : ℕ) → Fitting (op o) w k → a < 2 ^ w A → (T (uses (op o) B) → b < 2 ^ w B)
    → (T (uses (op o) S) → s < 2 ^ w S) → result o w k a b s < 2 ^ w R
result_small o w k a b s e la lb ls =
    let sized = denoted_sized o w k (bit a) (bit b) (bit s) e (λ x l. bit_lt a x) (λ u x l. bit_lt b x) (λ u x l. bit_lt s x) in
    rw (result_smtlib o w k a b s e la lb ls) (bv2nat_lt (w R) (denoted o w k (bit a) (bit b) (bit s)) sized)

-- numbers below 2^m are equal just where their bits below m are
module _ (m a b : ℕ) (la : a < 2 ^ m) (lb : b < 2 ^ m) where
  equal_same : Equal m (bit a) (bit b) → a ≡ b
  equal_same e = sym (bv2nat_bits m a la) ∙ bv2nat_equal m (bit a) (bit b) e ∙ bv2nat_bits m b lb

  same_equal : a ≡ b → Equal m (bit a) (bit b)
  same_equal e x l = ap (λ (n : ℕ). bit n x) e

pub compares_smtlib : (x : Rel) (m a b : ℕ) → a < 2 ^ m → b < 2 ^ m → Compares x a b ↔ Denoted x m (bit a) (bit b)
compares_smtlib ULE m a b la lb = rw (bv2nat_bits m a la, bv2nat_bits m b lb) (λ l. to l (dec_lt a b), from)
  where
    to : Compares ULE a b → Dec (a < b) → (a < b) ⊎ Equal m (bit a) (bit b)
    to l (yes h) = inl h
    to l (no h) = inr (same_equal m a b la lb (omega arith))

    from : (a < b) ⊎ Equal m (bit a) (bit b) → Compares ULE a b
    from (inl h) = omega arith
    from (inr e) = omega (arith, equal_same m a b la lb e)
compares_smtlib ULT m a b la lb = rw (bv2nat_bits m a la, bv2nat_bits m b lb) (λ h. h, λ h. h)
compares_smtlib NE m a b la lb = (λ n e. n (equal_same m a b la lb e), λ n e. n (same_equal m a b la lb e))
