-- Terms of a well-formed script: their sizes are widths, what they denote is of that size, and it goes by the values of the declared words alone.
use mathlib.Core.Path.{◌≡◌, refl, ap}
use mathlib.Core.List.{List, [], ◌∷◌}
use Prim.Native.Nat.{ℕ, ◌+◌, ◌*◌, ◌/◌, ◌^◌, ◌<◌}
use native.Mathlib.Omega.{arith}
use lib.ListN.{length}
use Rattle.words.specs.Bits.{bit}
use Rattle.words.specs.Word.{Width}
use Rattle.lists.specs.Lists.{at}
use Rattle.words.proofs.Order.{bit_lt}
use Rattle.rules.specs.Kinds.{Place, R, A, B, S, NOT, AND, OR, XOR, ITE, JOIN, op}
use Rattle.rules.specs.Rows.{Fitting}
use Rattle.rules.specs.SmtLib.{Vector, OfSize, bv2nat}
use Rattle.rules.proofs.SmtLib.{denoted_sized}
use Rattle.rules.proofs.SmtLibNumbers.{nat2bv_sized}
use Rattle.scripts.specs.Tree.{Unary, bvnot, extract, bvshl, bvlshr, Binary, bvand, bvor, bvxor, bvadd, concat}
use Rattle.scripts.specs.Tree.{Term, declared, constant, unary, binary, bvsub, ite, Assert, relation, not, and}
use Rattle.scripts.specs.Sizes.{unary_size, UnaryFits, binary_size, BinaryFits, size, Formed, FormedAssert, FormedAll}
use Rattle.scripts.specs.Denotes.{bvneg, unary_vector, binary_vector, vector, True, AllTrue}
use Rattle.scripts.specs.Making.{unary_op, unary_k, binary_op}

-- ---- sizes

pub unary_width : (u : Unary) (m : ℕ) → Width m → UnaryFits u m → Width (unary_size u m)
unary_width bvnot m w f = w
unary_width (extract i j) m w f = record { low = omega (arith, f.0); high = omega (arith, f.1, w.high) }
unary_width (bvshl n v) m w f = w
unary_width (bvlshr n v) m w f = w

pub binary_width : (o : Binary) (m n : ℕ) → Width m → BinaryFits o m n → Width (binary_size o m n)
binary_width bvand m n w f = w
binary_width bvor m n w f = w
binary_width bvxor m n w f = w
binary_width bvadd m n w f = w
binary_width concat m n w f = record { low = omega (arith, w.low); high = f }

pub size_width : (ws : List ℕ) → ((i : ℕ) → i < length ws → Width (at ws i)) → (t : Term) → Formed ws t → Width (size ws t)
size_width ws h (declared i) f = h i f
size_width ws h (constant m v) f = f.0
size_width ws h (unary u t) f = unary_width u (size ws t) (size_width ws h t f.0) f.1
size_width ws h (binary o s t) f = binary_width o (size ws s) (size ws t) (size_width ws h s f.0) f.2
size_width ws h (bvsub s t) f = size_width ws h s f.0
size_width ws h (ite c s t) f = size_width ws h s f.1

-- ---- the sizes of operands fit as the rows of their kinds ask

pub unary_fits : (u : Unary) (w : Place → ℕ) → UnaryFits u (w A) → w R ≡ unary_size u (w A) → Fitting (op (unary_op u)) w (unary_k u)
unary_fits bvnot w f e = e
unary_fits (extract i j) w f e = omega (arith, f.0, f.1)
unary_fits (bvshl n v) w f e = omega (arith, e)
unary_fits (bvlshr n v) w f e = omega (arith, e)

pub binary_fits : (o : Binary) (w : Place → ℕ) → BinaryFits o (w A) (w B) → w R ≡ binary_size o (w A) (w B) → Fitting (op (binary_op o)) w 0
binary_fits bvand w f e = (e, omega arith)
binary_fits bvor w f e = (e, omega arith)
binary_fits bvxor w f e = (e, omega arith)
binary_fits bvadd w f e = (e, omega arith)
binary_fits concat w f e = e

-- ---- what a term denotes is of its size

-- the widths of a row's places, of which the first two are r and a, and b that of the second operand
abbrev sizes : ℕ → ℕ → ℕ → Place → ℕ
sizes r a b R = r
sizes r a b A = a
sizes r a b B = b
sizes r a b S = 1

unary_sized : (u : Unary) (m : ℕ) (a : Vector) → UnaryFits u m → OfSize m a → OfSize (unary_size u m) (unary_vector u (unary_size u m) a)
unary_sized bvnot m a f h = denoted_sized NOT (λ p. m) 0 a a a refl h (λ u. absurd u) (λ u. absurd u)
unary_sized (extract i j) m a f h = λ x l. h (j + x) (omega (arith, f.0, f.1))
unary_sized (bvshl n v) m a f h = nat2bv_sized m (bv2nat m a * 2 ^ v)
unary_sized (bvlshr n v) m a f h = nat2bv_sized m (bv2nat m a / 2 ^ v)

binary_sized : (o : Binary) (m n : ℕ) (a b : Vector) → BinaryFits o m n → OfSize m a → OfSize n b
    → OfSize (binary_size o m n) (binary_vector o (binary_size o m n) n a b)
binary_sized bvand m n a b f h k = denoted_sized AND (sizes m m n) 0 a b a (refl, f) h (λ u. k) (λ u. absurd u)
binary_sized bvor m n a b f h k = denoted_sized OR (sizes m m n) 0 a b a (refl, f) h (λ u. k) (λ u. absurd u)
binary_sized bvxor m n a b f h k = denoted_sized XOR (sizes m m n) 0 a b a (refl, f) h (λ u. k) (λ u. absurd u)
binary_sized bvadd m n a b f h k = nat2bv_sized m (bv2nat m a + bv2nat m b)
binary_sized concat m n a b f h k = denoted_sized JOIN (sizes (m + n) m n) 0 a b a refl h (λ u. k) (λ u. absurd u)

pub vector_sized : (ws vs : List ℕ) (t : Term) → Formed ws t → OfSize (size ws t) (vector ws vs t)
vector_sized ws vs (declared i) f = λ x l. bit_lt (at vs i) x
vector_sized ws vs (constant m v) f = nat2bv_sized m v
vector_sized ws vs (unary u t) f = unary_sized u (size ws t) (vector ws vs t) f.1 (vector_sized ws vs t f.0)
vector_sized ws vs (binary o s t) f =
    binary_sized o (size ws s) (size ws t) (vector ws vs s) (vector ws vs t) f.2 (vector_sized ws vs s f.0) (vector_sized ws vs t f.1)
vector_sized ws vs (bvsub s t) f =
    nat2bv_sized (size ws s) (bv2nat (size ws s) (vector ws vs s) + bv2nat (size ws s) (bvneg (size ws s) (vector ws vs t)))
vector_sized ws vs (ite c s t) f =
    denoted_sized ITE (sizes (size ws s) (size ws s) (size ws t)) 0 (vector ws vs s) (vector ws vs t) (vector ws vs c) (refl, f.4, refl)
    (vector_sized ws vs s f.1) (λ u. vector_sized ws vs t f.2) (λ u. rw f.3 at (vector_sized ws vs c f.0))

-- ---- and goes by the declared words alone

module _ (ws v v' : List ℕ) (e : (i : ℕ) → i < length ws → at v i ≡ at v' i) where
  pub vector_same : (t : Term) → Formed ws t → vector ws v t ≡ vector ws v' t
  vector_same (declared i) f = ap bit (e i f)
  vector_same (constant m n) f = refl
  vector_same (unary u t) f = ap (unary_vector u (unary_size u (size ws t))) (vector_same t f.0)
  vector_same (binary o s t) f = cc (vector_same s f.0, vector_same t f.1)
  vector_same (bvsub s t) f = cc (vector_same s f.0, vector_same t f.1)
  vector_same (ite c s t) f = cc (vector_same c f.0, vector_same s f.1, vector_same t f.2)

  pub true_same : (a : Assert) → FormedAssert ws a → True ws v a → True ws v' a
  true_same (relation c s t) f h = rw (vector_same s f.0, vector_same t f.1) at h
  true_same (not c s t) f h = rw (vector_same s f.0, vector_same t f.1) at h
  true_same (and a b) f h = (true_same a f.0 h.0, true_same b f.1 h.1)

  pub all_same : (l : List Assert) → FormedAll ws l → AllTrue ws v l → AllTrue ws v' l
  all_same [] f h = tt
  all_same (a ∷ l) f h = (true_same a f.0 h.0, all_same l f.1 h.1)
