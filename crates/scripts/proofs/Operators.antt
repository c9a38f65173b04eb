-- What the rules of a script's operators compute is what SMT-LIB denotes: also for a shift whose amount counts as 255, and for bvsub by three rules.
use mathlib.Core.Path.{◌≡◌, sym, ap, ◌∙◌}
use Prim.Native.Nat.{ℕ, ◌+◌, ◌-◌, ◌*◌, ◌/◌, ◌%◌, ◌^◌, ◌≤◌, ◌<◌, min}
use native.Mathlib.Nat.{mod-eq_of_lt, add-mod-mod, add-mod_right, lt_of_le_of_lt, min-eq_left}
use native.Mathlib.Omega.{arith}
use native.Mathlib.Decide.{dec_le}
use lib.Pow.{shr_le}
use Rattle.words.specs.Word.{Width}
use Rattle.rules.specs.Kinds.{Place, R, A, B, S, NOT, AND, OR, XOR, ADD, ITE, SLICE, JOIN, SHL, SHR}
use Rattle.rules.specs.Meaning.{result}
use Rattle.rules.specs.SmtLib.{Vector, OfSize, bv2nat, ite}
use Rattle.rules.proofs.SmtLibNumbers.{bv2nat_nat2bv, bv2nat_lt}
use Rattle.rules.proofs.SmtLibKinds.{shl_out, shr_out}
use Rattle.scripts.specs.Tree.{Unary, bvnot, extract, bvshl, bvlshr, Binary, bvand, bvor, bvxor, bvadd, concat}
use Rattle.scripts.specs.Sizes.{unary_size, UnaryFits, binary_size, BinaryFits}
use Rattle.scripts.specs.Denotes.{bvneg, bvsub, unary_vector, binary_vector}
use Rattle.scripts.specs.Making.{unary_op, unary_k, binary_op}
use Rattle.scripts.proofs.Vectors.{result_vector}

-- ---- shifts

module _ (w : Place → ℕ) (v x y z : ℕ) (narrow : w R ≤ 64) (small : x < 2 ^ w R) where
  -- a shift above 255 counts as 255
  shl_capped : result SHL w (min v 255) x y z ≡ result SHL w v x y z
  shl_capped = go (dec_le v 255)
    where
      go : Dec (v ≤ 255) → result SHL w (min v 255) x y z ≡ result SHL w v x y z
      go (yes l) = rw (min-eq_left l)
      go (no n) = shl_out w (min v 255) x y z (omega arith) ∙ sym (shl_out w v x y z (omega arith))

  shr_capped : result SHR w (min v 255) x y z ≡ result SHR w v x y z
  shr_capped = go (dec_le v 255)
    where
      go : Dec (v ≤ 255) → result SHR w (min v 255) x y z ≡ result SHR w v x y z
      go (yes l) = rw (min-eq_left l)
      go (no n) = shr_out w (min v 255) x y z small (omega arith) ∙ sym (shr_out w v x y z small (omega arith))

-- ---- operators on one term and on two

pub unary_vector_lem : (u : Unary) (w : Place → ℕ) (x y z : ℕ) (a : Vector) → Width (w A) → UnaryFits u (w A) → w R ≡ unary_size u (w A) → OfSize (w A) a
    → x ≡ bv2nat (w A) a → result (unary_op u) w (unary_k u) x y z ≡ bv2nat (w R) (unary_vector u (w R) a)
unary_vector_lem bvnot w x y z a n f e s h = result_vector NOT w 0 x y z a a a e s (λ u. absurd u) (λ u. absurd u) h (λ u. absurd u) (λ u. absurd u)
unary_vector_lem (extract i j) w x y z a n f e s h =
    result_vector SLICE w j x y z a a a (omega (arith, f.0, f.1)) s (λ u. absurd u) (λ u. absurd u) h (λ u. absurd u) (λ u. absurd u)
unary_vector_lem (bvshl m v) w x y z a n f e s h =
    let h' : x ≡ bv2nat (w R) a = h ∙ ap (λ (k : ℕ). bv2nat k a) (sym e) in
    let l : x < 2 ^ w R = rw (e, h) (bv2nat_lt (w A) a s) in
    shl_capped w v x y z (omega (arith, n.high)) l ∙ ap (λ (k : ℕ). k * 2 ^ v % 2 ^ w R) h' ∙ sym (bv2nat_nat2bv (w R) (bv2nat (w R) a * 2 ^ v))
unary_vector_lem (bvlshr m v) w x y z a n f e s h =
    let h' : x ≡ bv2nat (w R) a = h ∙ ap (λ (k : ℕ). bv2nat k a) (sym e) in
    let l : x < 2 ^ w R = rw (e, h) (bv2nat_lt (w A) a s) in
    shr_capped w v x y z (omega (arith, n.high)) l ∙ sym (mod-eq_of_lt (lt_of_le_of_lt (shr_le x v) l))
    ∙ ap (λ (k : ℕ). k / 2 ^ v % 2 ^ w R) h' ∙ sym (bv2nat_nat2bv (w R) (bv2nat (w R) a / 2 ^ v))

pub binary_vector_lem : (o : Binary) (w : Place → ℕ) (x y z : ℕ) (a b : Vector) → BinaryFits o (w A) (w B) → w R ≡ binary_size o (w A) (w B)
    → OfSize (w A) a → OfSize (w B) b → x ≡ bv2nat (w A) a → y ≡ bv2nat (w B) b
    → result (binary_op o) w 0 x y z ≡ bv2nat (w R) (binary_vector o (w R) (w B) a b)
binary_vector_lem bvand w x y z a b f e s t h k = result_vector AND w 0 x y z a b a (e, e ∙ f) s (λ u. t) (λ u. absurd u) h (λ u. k) (λ u. absurd u)
binary_vector_lem bvor w x y z a b f e s t h k = result_vector OR w 0 x y z a b a (e, e ∙ f) s (λ u. t) (λ u. absurd u) h (λ u. k) (λ u. absurd u)
binary_vector_lem bvxor w x y z a b f e s t h k = result_vector XOR w 0 x y z a b a (e, e ∙ f) s (λ u. t) (λ u. absurd u) h (λ u. k) (λ u. absurd u)
binary_vector_lem bvadd w x y z a b f e s t h k = result_vector ADD w 0 x y z a b a (e, e ∙ f) s (λ u. t) (λ u. absurd u) h (λ u. k) (λ u. absurd u)
binary_vector_lem concat w x y z a b f e s t h k = result_vector JOIN w 0 x y z a b a e s (λ u. t) (λ u. absurd u) h (λ u. k) (λ u. absurd u)

pub ite_vector : (w : Place → ℕ) (x y z : ℕ) (a b c : Vector) → w R ≡ w A → w R ≡ w B → w S ≡ 1 → OfSize (w A) a → OfSize (w B) b → OfSize (w S) c
    → x ≡ bv2nat (w A) a → y ≡ bv2nat (w B) b → z ≡ bv2nat (w S) c → result ITE w 0 x y z ≡ bv2nat (w R) (ite c a b)
ite_vector w x y z a b c e f g sa sb sc h k l = result_vector ITE w 0 x y z a b c (e, f, g) sa (λ u. sb) (λ u. sc) h (λ u. k) (λ u. l)

-- ---- bvsub

-- NOT(NOT x + y) is x less y, modulo n
sub_number : (n x y : ℕ) → x < n → y < n → n - 1 - (n - 1 - x + y) % n ≡ (x + (n - y) % n) % n
sub_number n x y lx ly = rw (add-mod-mod x (n - y) n) (go (dec_le y x))
  where
    go : Dec (y ≤ x) → n - 1 - (n - 1 - x + y) % n ≡ (x + (n - y)) % n
    go (yes l) =
        let e : (n - 1 - x + y) % n ≡ n - 1 - x + y = mod-eq_of_lt (omega arith) in
        let d : x + (n - y) ≡ x - y + n = omega arith in
        let f : (x + (n - y)) % n ≡ x - y = ap (λ (k : ℕ). k % n) d ∙ add-mod_right (x - y) n ∙ mod-eq_of_lt (omega arith) in
        omega arith
    go (no g) =
        let d : n - 1 - x + y ≡ y - 1 - x + n = omega arith in
        let e : (n - 1 - x + y) % n ≡ y - 1 - x = ap (λ (k : ℕ). k % n) d ∙ add-mod_right (y - 1 - x) n ∙ mod-eq_of_lt (omega arith) in
        let f : (x + (n - y)) % n ≡ x + (n - y) = mod-eq_of_lt (omega arith) in
        omega arith

pub sub_vector : (m x y : ℕ) (a b : Vector) → OfSize m a → OfSize m b → x ≡ bv2nat m a → y ≡ bv2nat m b
    → 2 ^ m - 1 - (2 ^ m - 1 - x + y) % 2 ^ m ≡ bv2nat m (bvsub m a b)
sub_vector m x y a b s t h k =
    sub_number (2 ^ m) x y (rw h (bv2nat_lt m a s)) (rw k (bv2nat_lt m b t))
    ∙ cc (bv2nat_nat2bv m (bv2nat m a + bv2nat m (bvneg m b)), bv2nat_nat2bv m (2 ^ m - bv2nat m b))
