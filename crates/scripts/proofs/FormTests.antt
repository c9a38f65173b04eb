-- Each test of `FormTests` passes exactly where what it asks holds.
use mathlib.Core.Path.{◌≡◌}
use mathlib.Core.Logic.{◌↔◌}
use mathlib.Core.Bool.{Bool, ◌&&◌}
use mathlib.Core.List.{List, [], ◌∷◌}
use Prim.Native.Nat.{ℕ, zero, suc, ◌+◌, ◌^◌, ◌≤◌, ◌<◌}
use native.Mathlib.Omega.{arith}
use lib.Dec.{T, eqb, leb, ltb, eqb→eq, eqb_refl, leb→le, le→leb, ltb→lt, lt→ltb}
use lib.ListN.{length}
use Rattle.words.specs.Word.{Width}
use Rattle.lists.specs.Lists.{at}
use Rattle.lists.proofs.Bools.{both, and_both}
use Rattle.scripts.specs.Tree.{Unary, bvnot, extract, bvshl, bvlshr, Binary, bvand, bvor, bvxor, bvadd, concat}
use Rattle.scripts.specs.Tree.{Term, declared, constant, unary, binary, bvsub, ite, Assert, relation, not, and, Script}
use Rattle.scripts.specs.Sizes.{UnaryFits, BinaryFits, size, Formed, SameSize, FormedAssert, FormedAll, WellFormed}
use Rattle.scripts.specs.FormTests.{size_fits, unary_fits, binary_fits, term_formed, assert_formed, all_formed, sizes_fit, script_formed}

eq_tests : (m n : ℕ) → T (eqb m n) ↔ (m ≡ n)
eq_tests m n = (eqb→eq m n, λ e. rw e (eqb_refl n))

le_tests : (m n : ℕ) → T (leb m n) ↔ (m ≤ n)
le_tests m n = (leb→le m n, le→leb m n)

lt_tests : (m n : ℕ) → T (ltb m n) ↔ (m < n)
lt_tests m n = (ltb→lt m n, lt→ltb m n)

and_tests : {P Q : Type 0} (a b : Bool) → (T a ↔ P) → (T b ↔ Q) → T (a && b) ↔ (P × Q)
and_tests a b f g = (λ t. let (x, y) = both a b t in (f.0 x, g.0 y), λ h. and_both a b (f.1 h.0) (g.1 h.1))

and3_tests : {P Q R : Type 0} (a b c : Bool) → (T a ↔ P) → (T b ↔ Q) → (T c ↔ R) → T (a && (b && c)) ↔ (P × Q × R)
and3_tests a b c f g h =
    let k = and_tests b c g h in (
      λ t. let (x, y) = both a (b && c) t in (f.0 x, (k.0 y).0, (k.0 y).1),
      λ z. and_both a (b && c) (f.1 z.0) (k.1 (z.1, z.2)),
    )

-- ---- one bracket

pub size_tests : (m : ℕ) → T (size_fits m) ↔ Width m
size_tests m =
    let k = and_tests (leb 1 m) (leb m 64) (le_tests 1 m) (le_tests m 64) in
    (λ t. record { low = (k.0 t).0; high = (k.0 t).1 }, λ w. k.1 (w.low, w.high))

pub unary_tests : (u : Unary) (m : ℕ) → T (unary_fits u m) ↔ UnaryFits u m
unary_tests bvnot m = (λ t. tt, λ h. tt)
unary_tests (extract i j) m = and_tests (leb j i) (ltb i m) (le_tests j i) (lt_tests i m)
unary_tests (bvshl n v) m = and_tests (eqb n m) (ltb v (2 ^ n)) (eq_tests n m) (lt_tests v (2 ^ n))
unary_tests (bvlshr n v) m = and_tests (eqb n m) (ltb v (2 ^ n)) (eq_tests n m) (lt_tests v (2 ^ n))

pub binary_tests : (o : Binary) (m n : ℕ) → T (binary_fits o m n) ↔ BinaryFits o m n
binary_tests bvand m n = eq_tests m n
binary_tests bvor m n = eq_tests m n
binary_tests bvxor m n = eq_tests m n
binary_tests bvadd m n = eq_tests m n
binary_tests concat m n = le_tests (m + n) 64

-- ---- a whole script

module _ (ws : List ℕ) where
  pub term_tests : (t : Term) → T (term_formed ws t) ↔ Formed ws t
  term_tests (declared i) = lt_tests i (length ws)
  term_tests (constant m v) = and_tests (size_fits m) (ltb v (2 ^ m)) (size_tests m) (lt_tests v (2 ^ m))
  term_tests (unary u t) = and_tests (term_formed ws t) (unary_fits u (size ws t)) (term_tests t) (unary_tests u (size ws t))
  term_tests (binary o s t) =
      and3_tests (term_formed ws s) (term_formed ws t) (binary_fits o (size ws s) (size ws t)) (term_tests s) (term_tests t)
      (binary_tests o (size ws s) (size ws t))
  term_tests (bvsub s t) =
      and3_tests (term_formed ws s) (term_formed ws t) (eqb (size ws s) (size ws t)) (term_tests s) (term_tests t) (eq_tests (size ws s) (size ws t))
  term_tests (ite c s t) =
      let l = size ws c in
      let m = size ws s in
      let n = size ws t in
      let inner = and3_tests (term_formed ws t) (eqb l 1) (eqb m n) (term_tests t) (eq_tests l 1) (eq_tests m n) in
      let k = and3_tests (term_formed ws c) (term_formed ws s) (term_formed ws t && (eqb l 1 && eqb m n)) (term_tests c) (term_tests s) inner in (
        λ t. let z = k.0 t in (z.0, z.1, z.2.0, z.2.1, z.2.2),
        λ z. k.1 (z.0, z.1, (z.2, z.3, z.4)),
      )

  same_tests : (s t : Term) → T (term_formed ws s && (term_formed ws t && eqb (size ws s) (size ws t))) ↔ SameSize ws s t
  same_tests s t =
      and3_tests (term_formed ws s) (term_formed ws t) (eqb (size ws s) (size ws t)) (term_tests s) (term_tests t) (eq_tests (size ws s) (size ws t))

  pub assert_tests : (a : Assert) → T (assert_formed ws a) ↔ FormedAssert ws a
  assert_tests (relation c s t) = same_tests s t
  assert_tests (not c s t) = same_tests s t
  assert_tests (and a b) = and_tests (assert_formed ws a) (assert_formed ws b) (assert_tests a) (assert_tests b)

  pub all_tests : (l : List Assert) → T (all_formed ws l) ↔ FormedAll ws l
  all_tests [] = (λ t. tt, λ h. tt)
  all_tests (a ∷ l) = and_tests (assert_formed ws a) (all_formed ws l) (assert_tests a) (all_tests l)

sizes_tests : (ws : List ℕ) → T (sizes_fit ws) ↔ ((i : ℕ) → i < length ws → Width (at ws i))
sizes_tests [] = (λ t i l. absurd (omega arith), λ h. tt)
sizes_tests (m ∷ ws) = (λ t. let (x, y) = both (size_fits m) (sizes_fit ws) t in there x ((sizes_tests ws).0 y), back (sizes_tests ws).1)
  where
    there : T (size_fits m) → ((i : ℕ) → i < length ws → Width (at ws i)) → (i : ℕ) → i < suc (length ws) → Width (at (m ∷ ws) i)
    there x h zero l = (size_tests m).0 x
    there x h (suc i) l = h i (omega arith)

    back : (((i : ℕ) → i < length ws → Width (at ws i)) → T (sizes_fit ws))
        → ((i : ℕ) → i < suc (length ws) → Width (at (m ∷ ws) i)) → T (size_fits m && sizes_fit ws)
    back f h = and_both (size_fits m) (sizes_fit ws) ((size_tests m).1 (h 0 (omega arith))) (f (λ i l. h (suc i) (omega arith)))

pub script_tests : (s : Script) → T (script_formed s) ↔ WellFormed s
script_tests s =
    let k = and_tests (sizes_fit s.sizes) (all_formed s.sizes s.asserts) (sizes_tests s.sizes) (all_tests s.sizes s.asserts) in
    (λ t. record { sizes = (k.0 t).0; asserts = (k.0 t).1 }, λ h. k.1 (h.sizes, h.asserts))
