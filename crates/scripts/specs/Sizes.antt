-- To be believed: the size of each term, and well-formed scripts: sizes are 1 to 64 and fit as SMT-LIB asks.
use Rattle.std.specs.Prelude.{◌≡◌, List, [], ◌∷◌, ℕ, suc, ◌+◌, ◌-◌, ◌^◌, ◌≤◌, ◌<◌, length}
use Rattle.words.specs.Word.{Width}
use Rattle.lists.specs.Lists.{at}
use Rattle.scripts.specs.Tree.{Unary, bvnot, extract, bvshl, bvlshr, Binary, bvand, bvor, bvxor, bvadd, concat}
use Rattle.scripts.specs.Tree.{Term, declared, constant, unary, binary, bvsub, ite, Assert, relation, not, and, Script}

-- the size of what an operator denotes, by the sizes of its operands
abbrev pub unary_size : Unary → ℕ → ℕ
unary_size bvnot m = m
unary_size (extract i j) m = suc i - j
unary_size (bvshl n v) m = m
unary_size (bvlshr n v) m = m

abbrev pub binary_size : Binary → ℕ → ℕ → ℕ
binary_size bvand m n = m
binary_size bvor m n = m
binary_size bvxor m n = m
binary_size bvadd m n = m
binary_size concat m n = m + n

-- what an operator asks of them
abbrev pub UnaryFits : Unary → ℕ → Type 0
UnaryFits bvnot m = Unit {0}
UnaryFits (extract i j) m = (j ≤ i) × (i < m)
UnaryFits (bvshl n v) m = (n ≡ m) × (v < 2 ^ n)
UnaryFits (bvlshr n v) m = (n ≡ m) × (v < 2 ^ n)

abbrev pub BinaryFits : Binary → ℕ → ℕ → Type 0
BinaryFits bvand m n = m ≡ n
BinaryFits bvor m n = m ≡ n
BinaryFits bvxor m n = m ≡ n
BinaryFits bvadd m n = m ≡ n
BinaryFits concat m n = m + n ≤ 64

-- the size of a term, where ws are the sizes of the declared words
abbrev pub size : List ℕ → Term → ℕ
size ws (declared i) = at ws i
size ws (constant m v) = m
size ws (unary u t) = unary_size u (size ws t)
size ws (binary o s t) = binary_size o (size ws s) (size ws t)
size ws (bvsub s t) = size ws s
size ws (ite c s t) = size ws s

-- a term is well-formed
abbrev pub Formed : List ℕ → Term → Type 0
Formed ws (declared i) = i < length ws
Formed ws (constant m v) = Width m × (v < 2 ^ m)
Formed ws (unary u t) = Formed ws t × UnaryFits u (size ws t)
Formed ws (binary o s t) = Formed ws s × Formed ws t × BinaryFits o (size ws s) (size ws t)
Formed ws (bvsub s t) = Formed ws s × Formed ws t × (size ws s ≡ size ws t)
Formed ws (ite c s t) = Formed ws c × Formed ws s × Formed ws t × (size ws c ≡ 1) × (size ws s ≡ size ws t)

-- two terms of one size, which may be related
abbrev pub SameSize : List ℕ → Term → Term → Type 0
SameSize ws s t = Formed ws s × Formed ws t × (size ws s ≡ size ws t)

abbrev pub FormedAssert : List ℕ → Assert → Type 0
FormedAssert ws (relation c s t) = SameSize ws s t
FormedAssert ws (not c s t) = SameSize ws s t
FormedAssert ws (and a b) = FormedAssert ws a × FormedAssert ws b

abbrev pub FormedAll : List ℕ → List Assert → Type 0
FormedAll ws [] = Unit {0}
FormedAll ws (a ∷ as') = FormedAssert ws a × FormedAll ws as'

pub record WellFormed (s : Script) : Type 0 where
  pub sizes : (i : ℕ) → i < length s.sizes → Width (at s.sizes i)
  pub asserts : FormedAll s.sizes s.asserts
