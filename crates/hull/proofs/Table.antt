-- The rule of the table of masks: the columns by which each kind goes from one state to another. It is one test, computed for all kinds.
use Rattle.std.proofs.Common.{◌≡◌, Bool, true, false, not, ◌&&◌, ◌||◌, T}
use mathlib.Core.Bool.{beq}
use Rattle.words.specs.Bits.{bit}
use Rattle.rules.specs.Kinds.{COPY, NOT, AND, OR, XOR, ADD, ITE, SLICE, JOIN, SHL, SHR, ULE, ULT, NE, Kind, op, rel}
use Rattle.hull.specs.Runs.{Lane, lane_r, lane_a, lane_b, mask, has, pick}
use Rattle.hull.specs.Automata.{auto_of}
use Rattle.hull.proofs.Masks.{col}
use Rattle.lists.proofs.Bools.{all1, all3, at5, beq_eq}

-- A kind as a machine that reads the bits y of a and z of b in state q: the state after them, and whether x may stand at r.
pub record Machine : Type 0 where
  pub next : Bool → Bool → Bool → Bool
  pub passes : Bool → Bool → Bool → Bool → Bool

abbrev pub xor : Bool → Bool → Bool
xor x y = not (beq x y)

-- the carry of a sum of three bits
abbrev pub carry : Bool → Bool → Bool → Bool
carry q y z = (y && z) || (q && (y || z))

-- a and b are compared from bit 0 on: where they differ the state says whether a is the smaller
abbrev pub smaller : Bool → Bool → Bool → Bool
smaller q y z = pick (xor y z) q z

-- a kind that computes the bit at r and stays in its state, and one that leaves r free
abbrev stays : (Bool → Bool → Bool → Bool) → Machine
stays g = record { next = λ q y z. q; passes = λ q x y z. beq x (g q y z) }

abbrev free : (Bool → Bool → Bool → Bool) → Machine
free g = record { next = g; passes = λ q x y z. true }

abbrev none : Machine
none = record { next = λ q y z. q; passes = λ q x y z. false }

unfoldable pub machine : Kind → Machine
machine (op AND) = stays (λ q y z. y && z)
machine (op OR) = stays (λ q y z. y || z)
machine (op XOR) = stays (λ q y z. xor y z)
machine (op ADD) = record { next = carry; passes = λ q x y z. beq x (xor q (xor y z)) }
machine (op ITE) = stays (λ q y z. pick q z y)
machine (rel ULE) = free smaller
machine (rel ULT) = free smaller
machine (rel NE) = free (λ q y z. q || xor y z)
machine _ = none

-- ---- the test

abbrev right : Kind → Bool → Bool → Bool → Bool → Bool → Bool
right κ q q' x y z = beq (has (mask (auto_of κ) q q') (col x y z)) (beq q' ((machine κ).next q y z) && (machine κ).passes q x y z)

abbrev tested : Kind → Bool
tested κ = all1 (λ q. all1 (λ q'. all3 (right κ q q')))

all_tested : (κ : Kind) → T (tested κ)
unfolding auto_of bit machine
all_tested (op COPY) = tt
all_tested (op NOT) = tt
all_tested (op AND) = tt
all_tested (op OR) = tt
all_tested (op XOR) = tt
all_tested (op ADD) = tt
all_tested (op ITE) = tt
all_tested (op SLICE) = tt
all_tested (op JOIN) = tt
all_tested (op SHL) = tt
all_tested (op SHR) = tt
all_tested (rel ULE) = tt
all_tested (rel ULT) = tt
all_tested (rel NE) = tt

-- a column passes just where it leads to the next state and may stand there
pub column : (κ : Kind) (q q' : Bool) (c : Lane → Bool)
    → has (mask (auto_of κ) q q') c ≡ (beq q' ((machine κ).next q (c lane_a) (c lane_b)) && (machine κ).passes q (c lane_r) (c lane_a) (c lane_b))
column κ q q' c = beq_eq _ _ (at5 (right κ) (all_tested κ) q q' (c lane_r) (c lane_a) (c lane_b))
