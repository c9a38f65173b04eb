-- Scripts worked by hand, one for each reading of how the problem is made.
-- A rule is written as its six bytes: kind, r, a, b, s, k.
use mathlib.Core.Path.{◌≡◌, refl}
use mathlib.Core.List.{[], ◌∷◌}
use Prim.Native.Nat.{ℕ}
use Rattle.rules.specs.Tight.{Rule}
use Rattle.scripts.specs.Tree.{bvnot, extract, bvshl, bvlshr, bvand, bvor, bvxor, bvadd, concat}
use Rattle.scripts.specs.Tree.{declared, constant, unary, binary, bvsub, ite}
use Rattle.scripts.specs.Tree.{equals, distinct, bvule, bvult, bvuge, bvugt, relation, not, and}
use Rattle.scripts.specs.Draft.{more_word, more_rule, start}
use Rattle.scripts.specs.Making.{constant_ends, computed_ends, term_ends, assert_ends, asserts_end, problem_made}

abbrev rule6 : ℕ → ℕ → ℕ → ℕ → ℕ → ℕ → Rule
rule6 kind r a b s k = record { kind = kind; r = r; a = a; b = b; s = s; k = k }

-- relations: of x and y, words 0 and 1. = is SLICE with k = 0 and r its left side, bvuge and bvugt are turned round
-- (assert (= x y)) (assert (distinct x y)) (assert (bvule x y)) (assert (bvult x y)) (assert (bvuge x y)) (assert (bvugt x y))
pub relations_made : (problem_made
    (record {
      sizes = 4 ∷ 4 ∷ [];
      asserts = relation equals (declared 0) (declared 1)
          ∷ relation distinct (declared 0) (declared 1)
          ∷ relation bvule (declared 0) (declared 1)
          ∷ relation bvult (declared 0) (declared 1)
          ∷ relation bvuge (declared 0) (declared 1)
          ∷ relation bvugt (declared 0) (declared 1)
          ∷ [];
    })
    ).rules
    ≡ rule6 8 0 1 0 0 0 ∷ rule6 14 0 0 1 0 0 ∷ rule6 12 0 0 1 0 0 ∷ rule6 13 0 0 1 0 0 ∷ rule6 12 0 1 0 0 0 ∷ rule6 13 0 1 0 0 0 ∷ []
unfolding problem_made start asserts_end assert_ends term_ends more_rule
relations_made = refl

-- their negations: not = is NE, not distinct SLICE with k = 0, not bvule ULT turned round, not bvult ULE turned round, not bvuge ULT, not bvugt ULE
-- (assert (not (= x y))) (assert (not (distinct x y))) and so on, in the same order
pub negations_made : (problem_made
    (record {
      sizes = 4 ∷ 4 ∷ [];
      asserts = not equals (declared 0) (declared 1)
          ∷ not distinct (declared 0) (declared 1)
          ∷ not bvule (declared 0) (declared 1)
          ∷ not bvult (declared 0) (declared 1)
          ∷ not bvuge (declared 0) (declared 1)
          ∷ not bvugt (declared 0) (declared 1)
          ∷ [];
    })
    ).rules
    ≡ rule6 14 0 0 1 0 0 ∷ rule6 8 0 1 0 0 0 ∷ rule6 13 0 1 0 0 0 ∷ rule6 12 0 1 0 0 0 ∷ rule6 13 0 0 1 0 0 ∷ rule6 12 0 0 1 0 0 ∷ []
unfolding problem_made start asserts_end assert_ends term_ends more_rule
negations_made = refl

-- words by the end of their terms, after the declared ones: bvnot 2, #x0 3, bvor 4, bvxor 5, #x0 again 6, bvand 7; equal constants get a word each
-- (assert (= (bvxor (bvnot x) (bvor #x0 y)) (bvand #x0 x)))
pub numbered_made : problem_made
    (record {
      sizes = 4 ∷ 4 ∷ [];
      asserts = relation equals
          (binary bvxor (unary bvnot (declared 0)) (binary bvor (constant 4 0) (declared 1)))
          (binary bvand (constant 4 0) (declared 0))
          ∷ [];
    })
    ≡ record {
      widths = 4 ∷ 4 ∷ 4 ∷ 4 ∷ 4 ∷ 4 ∷ 4 ∷ 4 ∷ [];
      table = record { lo = 0 ∷ 0 ∷ 0 ∷ 0 ∷ 0 ∷ 0 ∷ 0 ∷ 0 ∷ []; hi = 15 ∷ 15 ∷ 15 ∷ 0 ∷ 15 ∷ 15 ∷ 0 ∷ 15 ∷ [] };
      rules = rule6 2 2 0 0 0 0 ∷ rule6 4 4 3 1 0 0 ∷ rule6 5 5 2 4 0 0 ∷ rule6 3 7 6 0 0 0 ∷ rule6 8 5 7 0 0 0 ∷ [];
    }
unfolding problem_made start asserts_end assert_ends term_ends computed_ends constant_ends more_word more_rule
numbered_made = refl

-- bvsub: words p, q and r, here 3, 4 and 5 after the bvadd: NOT p of the first term, ADD q of p and the second, NOT r of q
-- (assert (bvult (bvsub (bvadd x y) y) x))
pub difference_made : (problem_made
    (record { sizes = 8 ∷ 8 ∷ []; asserts = relation bvult (bvsub (binary bvadd (declared 0) (declared 1)) (declared 1)) (declared 0) ∷ [] })
    ).rules
    ≡ rule6 6 2 0 1 0 0 ∷ rule6 2 3 2 0 0 0 ∷ rule6 6 4 3 1 0 0 ∷ rule6 2 5 4 0 0 0 ∷ rule6 13 0 5 0 0 0 ∷ []
unfolding problem_made start asserts_end assert_ends term_ends computed_ends more_word more_rule
difference_made = refl

-- shift amounts have no word, and above 255 they count as 255
-- (assert (= (bvshl x #x00ff) (bvshl x #x0100))) (assert (distinct (bvlshr x #x00fe) (bvlshr x #xffff)))
pub shifts_made : (problem_made
    (record {
      sizes = 16 ∷ [];
      asserts = relation equals (unary (bvshl 16 255) (declared 0)) (unary (bvshl 16 256) (declared 0))
          ∷ relation distinct (unary (bvlshr 16 254) (declared 0)) (unary (bvlshr 16 65535) (declared 0))
          ∷ [];
    })
    ).rules
    ≡ rule6 10 1 0 0 0 255 ∷ rule6 10 2 0 0 0 255 ∷ rule6 8 1 2 0 0 0 ∷ rule6 11 3 0 0 0 254 ∷ rule6 11 4 0 0 0 255 ∷ rule6 14 0 3 4 0 0 ∷ []
unfolding problem_made start asserts_end assert_ends term_ends computed_ends more_word more_rule
shifts_made = refl

-- ite's #b1 has no word; concat is JOIN with its first term as a; extract is SLICE from its lower number; `and` makes no word and no rule
-- (declare-const s (_ BitVec 1)) (declare-const x (_ BitVec 8)) (declare-const y (_ BitVec 4))
-- (assert (and (distinct (ite (= s #b1) (bvshl x #xff) (bvlshr x #x03)) #x00) (bvugt (concat y ((_ extract 5 2) x)) (bvnot x)) (not (bvule y #xe))))
pub mixture_made : problem_made
    (record {
      sizes = 1 ∷ 8 ∷ 4 ∷ [];
      asserts = and
          (and
          (relation distinct (ite (declared 0) (unary (bvshl 8 255) (declared 1)) (unary (bvlshr 8 3) (declared 1))) (constant 8 0))
          (relation bvugt (binary concat (declared 2) (unary (extract 5 2) (declared 1))) (unary bvnot (declared 1))))
          (not bvule (declared 2) (constant 4 14))
          ∷ [];
    })
    ≡ record {
      widths = 1 ∷ 8 ∷ 4 ∷ 8 ∷ 8 ∷ 8 ∷ 8 ∷ 4 ∷ 8 ∷ 8 ∷ 4 ∷ [];
      table = record {
        lo = 0 ∷ 0 ∷ 0 ∷ 0 ∷ 0 ∷ 0 ∷ 0 ∷ 0 ∷ 0 ∷ 0 ∷ 14 ∷ [];
        hi = 1 ∷ 255 ∷ 15 ∷ 255 ∷ 255 ∷ 255 ∷ 0 ∷ 15 ∷ 255 ∷ 255 ∷ 14 ∷ [];
      };
      rules = rule6 10 3 1 0 0 255
          ∷ rule6 11 4 1 0 0 3
          ∷ rule6 7 5 3 4 0 0
          ∷ rule6 14 0 5 6 0 0
          ∷ rule6 8 7 1 0 0 2
          ∷ rule6 9 8 2 7 0 0
          ∷ rule6 2 9 1 0 0 0
          ∷ rule6 13 0 9 8 0 0
          ∷ rule6 13 0 10 2 0 0
          ∷ [];
    }
unfolding problem_made start asserts_end assert_ends term_ends computed_ends constant_ends more_word more_rule
mixture_made = refl
