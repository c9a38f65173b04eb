-- Mirrors code: what is asked of sizes at each closing bracket, as tests; and, made of them, the test of a whole script.
use Rattle.std.specs.Prelude.{Bool, true, ◌&&◌, List, [], ◌∷◌, ℕ, ◌+◌, ◌^◌, eqb, leb, ltb, length}
use Rattle.scripts.specs.Tree.{Unary, bvnot, extract, bvshl, bvlshr, Binary, bvand, bvor, bvxor, bvadd, concat}
use Rattle.scripts.specs.Tree.{Term, declared, constant, unary, binary, bvsub, ite, Assert, relation, not, and, Script}
use Rattle.scripts.specs.Sizes.{size}

-- ---- one bracket

-- a declared size
abbrev pub size_fits : ℕ → Bool
size_fits m = leb 1 m && leb m 64

-- an operator on one term of size m; a shift's amount is a constant of size n and number v
abbrev pub unary_fits : Unary → ℕ → Bool
unary_fits bvnot m = true
unary_fits (extract i j) m = leb j i && ltb i m
unary_fits (bvshl n v) m = eqb n m && ltb v (2 ^ n)
unary_fits (bvlshr n v) m = eqb n m && ltb v (2 ^ n)

-- an operator on two terms, of sizes m and n
abbrev pub binary_fits : Binary → ℕ → ℕ → Bool
binary_fits bvand m n = eqb m n
binary_fits bvor m n = eqb m n
binary_fits bvxor m n = eqb m n
binary_fits bvadd m n = eqb m n
binary_fits concat m n = leb (m + n) 64

-- ---- a whole script

abbrev pub term_formed : List ℕ → Term → Bool
term_formed ws (declared i) = ltb i (length ws)
term_formed ws (constant m v) = size_fits m && ltb v (2 ^ m)
term_formed ws (unary u t) = term_formed ws t && unary_fits u (size ws t)
term_formed ws (binary o s t) = term_formed ws s && (term_formed ws t && binary_fits o (size ws s) (size ws t))
term_formed ws (bvsub s t) = term_formed ws s && (term_formed ws t && eqb (size ws s) (size ws t))
term_formed ws (ite c s t) = term_formed ws c && (term_formed ws s && (term_formed ws t && (eqb (size ws c) 1 && eqb (size ws s) (size ws t))))

abbrev pub assert_formed : List ℕ → Assert → Bool
assert_formed ws (relation c s t) = term_formed ws s && (term_formed ws t && eqb (size ws s) (size ws t))
assert_formed ws (not c s t) = term_formed ws s && (term_formed ws t && eqb (size ws s) (size ws t))
assert_formed ws (and a b) = assert_formed ws a && assert_formed ws b

abbrev pub all_formed : List ℕ → List Assert → Bool
all_formed ws [] = true
all_formed ws (a ∷ as') = assert_formed ws a && all_formed ws as'

abbrev pub sizes_fit : List ℕ → Bool
sizes_fit [] = true
sizes_fit (m ∷ ws) = size_fits m && sizes_fit ws

abbrev pub script_formed : Script → Bool
script_formed s = sizes_fit s.sizes && all_formed s.sizes s.asserts
