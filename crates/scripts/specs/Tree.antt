-- To be believed: a script as a tree: terms, what an assert holds, and the script. Nothing here knows of text.
-- Operators have their names in SMT-LIB; what they denote stands in `Denotes`, what they become in the problem in `Making`.
use Rattle.std.specs.Prelude.{List, ℕ}

-- operators on one term. A shift's amount is a constant, given by its size and its number; extract is given by its two numbers, the higher first
pub data Unary : Type 0 where
  bvnot : Unary
  extract : ℕ → ℕ → Unary
  bvshl bvlshr : ℕ → ℕ → Unary

-- operators on two terms that one rule computes
pub data Binary : Type 0 where
  bvand bvor bvxor bvadd concat : Binary

pub data Term : Type 0 where
  -- a declared word by its number, in the order of declarations
  declared : ℕ → Term
  -- a constant: its size and its number
  constant : ℕ → ℕ → Term
  unary : Unary → Term → Term
  binary : Binary → Term → Term → Term
  bvsub : Term → Term → Term
  -- (ite (= c #b1) s t)
  ite : Term → Term → Term → Term

-- relations of two terms; `equals` is SMT-LIB's =
pub data Relation : Type 0 where
  equals distinct bvule bvult bvuge bvugt : Relation

-- what an assert holds: a relation, a `not` of one, or an `and`; `and` of more than two is a nest of these, since SMT-LIB has it associate to the left
pub data Assert : Type 0 where
  relation : Relation → Term → Term → Assert
  not : Relation → Term → Term → Assert
  and : Assert → Assert → Assert

-- the sizes of the declared words, in order, and the asserts, in order
pub record Script : Type 0 where
  pub sizes : List ℕ
  pub asserts : List Assert
