-- What a kind computes of the numbers of bit-vectors is the number of the bit-vector that SMT-LIB denotes for them.
use mathlib.Core.Path.{◌≡◌, ◌∙◌}
use Prim.Native.Nat.{ℕ, ◌+◌, ◌-◌, ◌<◌}
use native.Mathlib.Omega.{arith}
use native.Mathlib.Decide.{dec_lt}
use lib.Dec.{T}
use borrow.Author.Tests.{lt-ltb, le-ltb}
use Rattle.words.specs.Bits.{bit}
use Rattle.words.proofs.Order.{bit_lt}
use Rattle.rules.specs.Kinds.{Place, R, A, B, S, Op, COPY, NOT, AND, OR, XOR, ADD, ITE, SLICE, JOIN, SHL, SHR, op}
use Rattle.rules.specs.Rows.{uses, Fitting}
use Rattle.rules.specs.Meaning.{result}
use Rattle.rules.specs.SmtLib.{Vector, OfSize, Equal, bv2nat, concat, denoted}
use Rattle.rules.proofs.SmtLibNumbers.{bv2nat_bits, bv2nat_equal, bv2nat_lt, nat2bv_unique}
use Rattle.rules.proofs.SmtLib.{result_smtlib}
use Rattle.rules.proofs.Used.{result_used}

-- the bits of a bit-vector's number are its own
pub bits_number : (m : ℕ) (b : Vector) → OfSize m b → Equal m (bit (bv2nat m b)) b
bits_number m b h = nat2bv_unique m (bit (bv2nat m b)) b (λ x l. bit_lt (bv2nat m b) x) h (bv2nat_bits m (bv2nat m b) (bv2nat_lt m b h))

-- what a kind denotes goes by the bits below the sizes of its operands
denoted_equal : (o : Op) (w : Place → ℕ) (k : ℕ) (a a' b b' s s' : Vector) → Fitting (op o) w k → Equal (w A) a a'
    → (T (uses (op o) B) → Equal (w B) b b') → (T (uses (op o) S) → Equal (w S) s s') → Equal (w R) (denoted o w k a b s) (denoted o w k a' b' s')
denoted_equal COPY w k a a' b b' s s' e p q r x l = p x (rw e at l)
denoted_equal NOT w k a a' b b' s s' e p q r x l = cc (p x (rw e at l))
denoted_equal AND w k a a' b b' s s' e p q r x l = cc (p x (rw e.0 at l), q tt x (rw e.1 at l))
denoted_equal OR w k a a' b b' s s' e p q r x l = cc (p x (rw e.0 at l), q tt x (rw e.1 at l))
denoted_equal XOR w k a a' b b' s s' e p q r x l = cc (p x (rw e.0 at l), q tt x (rw e.1 at l))
denoted_equal ADD w k a a' b b' s s' e p q r x l =
    cc (bv2nat_equal (w R) a a' (λ y h. p y (rw e.0 at h)), bv2nat_equal (w R) b b' (λ y h. q tt y (rw e.1 at h)))
denoted_equal ITE w k a a' b b' s s' e p q r x l = cc (p x (rw e.0 at l), q tt x (rw e.1 at l), r tt 0 (omega (arith, e.2)))
denoted_equal SLICE w k a a' b b' s s' e p q r x l = p (k + x) (omega arith)
denoted_equal JOIN w k a a' b b' s s' e p q r x l = go (dec_lt x (w B))
  where
    go : Dec (x < w B) → concat (w B) a b x ≡ concat (w B) a' b' x
    go (yes h) = rw (lt-ltb x (w B) h) (q tt x h)
    go (no h) = rw (le-ltb x (w B) (omega arith)) (p (x - w B) (omega arith))
denoted_equal SHL w k a a' b b' s s' e p q r x l = cc (bv2nat_equal (w R) a a' (λ y h. p y (omega (arith, e, h))))
denoted_equal SHR w k a a' b b' s s' e p q r x l = cc (bv2nat_equal (w R) a a' (λ y h. p y (omega (arith, e, h))))

pub result_vector : (o : Op) (w : Place → ℕ) (k x y z : ℕ) (a b s : Vector) → Fitting (op o) w k
    → OfSize (w A) a → (T (uses (op o) B) → OfSize (w B) b) → (T (uses (op o) S) → OfSize (w S) s)
    → x ≡ bv2nat (w A) a → (T (uses (op o) B) → y ≡ bv2nat (w B) b) → (T (uses (op o) S) → z ≡ bv2nat (w S) s)
    → result o w k x y z ≡ bv2nat (w R) (denoted o w k a b s)
result_vector o w k x y z a b s fit sa sb ss ex ey ez =
    result_used o w k x y z (bv2nat (w A) a) (bv2nat (w B) b) (bv2nat (w S) s) ex ey ez
    ∙ result_smtlib o w k (bv2nat (w A) a) (bv2nat (w B) b) (bv2nat (w S) s) fit
    (bv2nat_lt (w A) a sa) (λ u. bv2nat_lt (w B) b (sb u)) (λ u. bv2nat_lt (w S) s (ss u))
    ∙ bv2nat_equal (w R) _ _
    (denoted_equal o w k (bit (bv2nat (w A) a)) a (bit (bv2nat (w B) b)) b (bit (bv2nat (w S) s)) s fit
    (bits_number (w A) a sa) (λ u. bits_number (w B) b (sb u)) (λ u. bits_number (w S) s (ss u)))
