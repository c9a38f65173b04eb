-- An operator, its k, the width of a new word and the operands that fit together: what a closing bracket needs.
use mathlib.Core.Path.{◌≡◌, refl, sym}
use Prim.Native.Nat.{ℕ, ◌<◌}
use native.Mathlib.Omega.{arith}
use lib.Dec.{T}
use lib.ListN.{length}
use Rattle.words.specs.Word.{Width}
use Rattle.lists.specs.Lists.{at}
use Rattle.rules.specs.Kinds.{Place, R, A, B, S, Op, NOT, ADD, ITE, op}
use Rattle.rules.specs.Rows.{uses, Fitting}
use Rattle.rules.specs.ProperProblem.{uses_k}
use Rattle.scripts.specs.Draft.{Draft}
use Rattle.scripts.specs.Making.{unary_op, unary_k, binary_op}
use Rattle.scripts.specs.Tree.{Unary, bvnot, extract, bvshl, bvlshr, Binary, bvand, bvor, bvxor, bvadd, concat}
use Rattle.scripts.specs.Sizes.{unary_size, UnaryFits, binary_size, BinaryFits}
use Rattle.scripts.proofs.Terms.{unary_width, binary_width, unary_fits, binary_fits}

-- a number for each place
abbrev pub by_place : ℕ → ℕ → ℕ → ℕ → Place → ℕ
by_place r a b s R = r
by_place r a b s A = a
by_place r a b s B = b
by_place r a b s S = s

-- the widths at the places of a rule that computes a word of width w from words of p
abbrev pub row_widths : Draft → ℕ → ℕ → ℕ → ℕ → Place → ℕ
row_widths p w a b s = by_place w (at p.widths a) (at p.widths b) (at p.widths s)

-- a kind, its k, the width of the new word and its operands fit together
pub record Closes (p : Draft) (o : Op) (k w a b s : ℕ) : Type 0 where
  pub width : Width w
  pub fit : Fitting (op o) (row_widths p w a b s) k
  pub a_there : a < length p.widths
  pub b_there : b < length p.widths
  pub s_there : s < length p.widths
  pub b_unused : ¬ T (uses (op o) B) → b ≡ 0
  pub s_unused : ¬ T (uses (op o) S) → s ≡ 0
  pub k_unused : ¬ T (uses_k (op o)) → k ≡ 0
  pub k_byte : k < 256

-- ---- operators close

unary_k_lem : (u : Unary) → ¬ T (uses_k (op (unary_op u))) → unary_k u ≡ 0
unary_k_lem bvnot n = refl
unary_k_lem (extract i j) n = absurd (n tt)
unary_k_lem (bvshl m v) n = absurd (n tt)
unary_k_lem (bvlshr m v) n = absurd (n tt)

unary_byte : (u : Unary) (m : ℕ) → Width m → UnaryFits u m → unary_k u < 256
unary_byte bvnot m w f = omega arith
unary_byte (extract i j) m w f = omega (arith, w.high, f.0, f.1)
unary_byte (bvshl n v) m w f = omega arith
unary_byte (bvlshr n v) m w f = omega arith

binary_b : (o : Binary) → T (uses (op (binary_op o)) B)
binary_b bvand = tt
binary_b bvor = tt
binary_b bvxor = tt
binary_b bvadd = tt
binary_b concat = tt

module _ (p : Draft) where
  pub unary_closes : (u : Unary) (x : ℕ) → x < length p.widths → Width (at p.widths x) → UnaryFits u (at p.widths x)
      → Closes p (unary_op u) (unary_k u) (unary_size u (at p.widths x)) x 0 0
  unary_closes u x l w f = record {
    width = unary_width u (at p.widths x) w f;
    fit = unary_fits u (row_widths p (unary_size u (at p.widths x)) x 0 0) f refl;
    a_there = l;
    b_there = omega arith;
    s_there = omega arith;
    b_unused = λ n. refl;
    s_unused = λ n. refl;
    k_unused = unary_k_lem u;
    k_byte = unary_byte u (at p.widths x) w f;
  }

  pub binary_closes : (o : Binary) (x y : ℕ) → x < length p.widths → y < length p.widths → Width (at p.widths x)
      → BinaryFits o (at p.widths x) (at p.widths y)
      → Closes p (binary_op o) 0 (binary_size o (at p.widths x) (at p.widths y)) x y 0
  binary_closes o x y l m w f = record {
    width = binary_width o (at p.widths x) (at p.widths y) w f;
    fit = binary_fits o (row_widths p (binary_size o (at p.widths x) (at p.widths y)) x y 0) f refl;
    a_there = l;
    b_there = m;
    s_there = omega arith;
    b_unused = λ n. absurd (n (binary_b o));
    s_unused = λ n. refl;
    k_unused = λ n. refl;
    k_byte = omega arith;
  }

  pub ite_closes : (z x y : ℕ) → z < length p.widths → x < length p.widths → y < length p.widths → Width (at p.widths x)
      → at p.widths x ≡ at p.widths y → at p.widths z ≡ 1 → Closes p ITE 0 (at p.widths x) x y z
  ite_closes z x y k l m w e f = record {
    width = w;
    fit = (refl, e, f);
    a_there = l;
    b_there = m;
    s_there = k;
    b_unused = λ n. absurd (n tt);
    s_unused = λ n. absurd (n tt);
    k_unused = λ n. refl;
    k_byte = omega arith;
  }

  -- the two kinds of bvsub
  pub not_closes : (w x : ℕ) → Width w → x < length p.widths → at p.widths x ≡ w → Closes p NOT 0 w x 0 0
  not_closes w x h l e = record {
    width = h;
    fit = sym e;
    a_there = l;
    b_there = omega arith;
    s_there = omega arith;
    b_unused = λ n. refl;
    s_unused = λ n. refl;
    k_unused = λ n. refl;
    k_byte = omega arith;
  }

  pub add_closes : (w x y : ℕ) → Width w → x < length p.widths → y < length p.widths → at p.widths x ≡ w → at p.widths y ≡ w
      → Closes p ADD 0 w x y 0
  add_closes w x y h l m e f = record {
    width = h;
    fit = (sym e, sym f);
    a_there = l;
    b_there = m;
    s_there = omega arith;
    b_unused = λ n. absurd (n tt);
    s_unused = λ n. refl;
    k_unused = λ n. refl;
    k_byte = omega arith;
  }
