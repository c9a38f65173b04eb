-- To be believed: the number of each kind, as `Kinds` lists them.
use Rattle.std.specs.Prelude.{ℕ}
use Rattle.rules.specs.Kinds.{Op, COPY, NOT, AND, OR, XOR, ADD, ITE, SLICE, JOIN, SHL, SHR, Rel, ULE, ULT, NE}

abbrev pub op_number : Op → ℕ
op_number COPY = 1
op_number NOT = 2
op_number AND = 3
op_number OR = 4
op_number XOR = 5
op_number ADD = 6
op_number ITE = 7
op_number SLICE = 8
op_number JOIN = 9
op_number SHL = 10
op_number SHR = 11

abbrev pub rel_number : Rel → ℕ
rel_number ULE = 12
rel_number ULT = 13
rel_number NE = 14
