-- To be believed: what a script means. Each operator denotes what SMT-LIB says, quoted here or in `SmtLib` of the rules.
-- Then the values that satisfy a script, and the least of them.
use Rattle.std.specs.Prelude.{◌≡◌, ◌⊎◌, List, [], ◌∷◌, ℕ, ◌-◌, ◌^◌, ◌<◌, length}
use Rattle.words.specs.Bits.{bit}
use Rattle.words.specs.Table.{Earlier}
use Rattle.lists.specs.Lists.{at}
use Rattle.rules.specs.Kinds.{ULE, ULT, NE}
use Rattle.rules.specs.SmtLib.{Vector, bv2nat, nat2bv, concat, extract, bvnot, bvand, bvor, bvxor, bvadd, bvshl, bvlshr, ite, Equal, Denoted}
use Rattle.scripts.specs.Tree.{Unary, Binary, Term, declared, constant, unary, binary, Relation, equals, distinct}
use Rattle.scripts.specs.Tree.{Assert, relation, not, and, Script}
use Rattle.scripts.specs.Sizes.{unary_size, binary_size, size}

-- [[(bvneg s)]] := nat2bv[m](2^m - bv2nat([[s]]))
abbrev pub bvneg : ℕ → Vector → Vector
bvneg m s = nat2bv m (2 ^ m - bv2nat m s)

-- (bvsub s t) abbreviates (bvadd s (bvneg t))
abbrev pub bvsub : ℕ → Vector → Vector → Vector
bvsub m s t = bvadd m s (bvneg m t)

-- what an operator on one term denotes, of size m; a shift's amount denotes its number v
abbrev pub unary_vector : Unary → ℕ → Vector → Vector
unary_vector Unary.bvnot m s = bvnot s
unary_vector (Unary.extract i j) m s = extract j s
unary_vector (Unary.bvshl n v) m s = bvshl m s v
unary_vector (Unary.bvlshr n v) m s = bvlshr m s v

-- what an operator on two terms denotes, of size m, where the second term is of size n
abbrev pub binary_vector : Binary → ℕ → ℕ → Vector → Vector → Vector
binary_vector Binary.bvand m n s t = bvand s t
binary_vector Binary.bvor m n s t = bvor s t
binary_vector Binary.bvxor m n s t = bvxor s t
binary_vector Binary.bvadd m n s t = bvadd m s t
binary_vector Binary.concat m n s t = concat n s t

-- what a term denotes, where ws are the sizes and vs the values of the declared words; a constant denotes the bits of its number
abbrev pub vector : List ℕ → List ℕ → Term → Vector
vector ws vs (declared i) = bit (at vs i)
vector ws vs (constant m v) = nat2bv m v
vector ws vs (unary u t) = unary_vector u (unary_size u (size ws t)) (vector ws vs t)
vector ws vs (binary o s t) = binary_vector o (binary_size o (size ws s) (size ws t)) (size ws t) (vector ws vs s) (vector ws vs t)
vector ws vs (Term.bvsub s t) = bvsub (size ws s) (vector ws vs s) (vector ws vs t)
vector ws vs (Term.ite c s t) = ite (vector ws vs c) (vector ws vs s) (vector ws vs t)

-- what a relation says of two vectors of size m: (bvuge s t) abbreviates (bvule t s), (bvugt s t) abbreviates (bvult t s)
abbrev pub Related : Relation → ℕ → Vector → Vector → Type 0
Related equals m s t = Equal m s t
Related distinct m s t = Denoted NE m s t
Related Relation.bvule m s t = Denoted ULE m s t
Related Relation.bvult m s t = Denoted ULT m s t
Related Relation.bvuge m s t = Denoted ULE m t s
Related Relation.bvugt m s t = Denoted ULT m t s

-- an assert is true: `not` and `and` are those of SMT-LIB's Core
abbrev pub True : List ℕ → List ℕ → Assert → Type 0
True ws vs (relation c s t) = Related c (size ws s) (vector ws vs s) (vector ws vs t)
True ws vs (not c s t) = ¬ Related c (size ws s) (vector ws vs s) (vector ws vs t)
True ws vs (and a b) = True ws vs a × True ws vs b

abbrev pub AllTrue : List ℕ → List ℕ → List Assert → Type 0
AllTrue ws vs [] = Unit {0}
AllTrue ws vs (a ∷ as') = True ws vs a × AllTrue ws vs as'

-- the values vs of the declared words satisfy a script: one for each, within its size, and every assert is true
pub record Satisfies (s : Script) (vs : List ℕ) : Type 0 where
  pub each : length vs ≡ length s.sizes
  pub small : (i : ℕ) → i < length s.sizes → at vs i < 2 ^ at s.sizes i
  pub asserts : AllTrue s.sizes vs s.asserts

-- the least of the values that satisfy a script, in the order of the declarations
pub record Least (s : Script) (vs : List ℕ) : Type 0 where
  pub satisfies : Satisfies s vs
  pub before : (us : List ℕ) → Satisfies s us → (us ≡ vs) ⊎ Earlier vs us
