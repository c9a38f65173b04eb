-- To be believed: the fixed table of fourteen rows: the places that each kind uses, and how the widths there, and k, must fit.
use Rattle.std.specs.Prelude.{◌≡◌, Bool, true, false, ℕ, ◌+◌, ◌≤◌}
use Rattle.rules.specs.Kinds.{Place, R, A, B, S, Op, COPY, NOT, AND, OR, XOR, ADD, ITE, SLICE, JOIN, SHL, SHR, Kind, op, rel}

-- the operands that a computing kind uses beside r
pub data Operands : Type 0 where
  a_only a_b a_b_s : Operands

-- how widths must fit
pub data Class : Type 0 where
  equal_r_a equal_r_a_b chosen part joined equal_a_b : Class

abbrev pub row : Op → Operands
row COPY = a_only
row NOT = a_only
row AND = a_b
row OR = a_b
row XOR = a_b
row ADD = a_b
row ITE = a_b_s
row SLICE = a_only
row JOIN = a_b
row SHL = a_only
row SHR = a_only

abbrev pub class : Kind → Class
class (op COPY) = equal_r_a
class (op NOT) = equal_r_a
class (op AND) = equal_r_a_b
class (op OR) = equal_r_a_b
class (op XOR) = equal_r_a_b
class (op ADD) = equal_r_a_b
class (op ITE) = chosen
class (op SLICE) = part
class (op JOIN) = joined
class (op SHL) = equal_r_a
class (op SHR) = equal_r_a
class (rel x) = equal_a_b

abbrev pub operand : Operands → Place → Bool
operand x R = false
operand x A = true
operand a_only B = false
operand a_b B = true
operand a_b_s B = true
operand a_only S = false
operand a_b S = false
operand a_b_s S = true

-- the places that a kind uses
abbrev pub uses : Kind → Place → Bool
uses (op o) R = true
uses (op o) A = true
uses (op o) B = operand (row o) B
uses (op o) S = operand (row o) S
uses (rel x) R = false
uses (rel x) A = true
uses (rel x) B = true
uses (rel x) S = false

-- what a class asks of the widths w of the places, and of k: of k only `part` asks something, so a shift may have any k
abbrev pub FitsAs : Class → (Place → ℕ) → ℕ → Type 0
FitsAs equal_r_a w k = w R ≡ w A
FitsAs equal_r_a_b w k = (w R ≡ w A) × (w R ≡ w B)
FitsAs chosen w k = (w R ≡ w A) × (w R ≡ w B) × (w S ≡ 1)
FitsAs part w k = k + w R ≤ w A
FitsAs joined w k = w R ≡ w A + w B
FitsAs equal_a_b w k = w A ≡ w B

abbrev pub Fitting : Kind → (Place → ℕ) → ℕ → Type 0
Fitting x w k = FitsAs (class x) w k
