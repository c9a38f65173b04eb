-- The number of a kind is a kind's, and that kind's.
use mathlib.Core.Path.{◌≡◌, refl}
use native.Mathlib.Omega.{arith}
use Rattle.rules.specs.Kinds.{Op, COPY, NOT, AND, OR, XOR, ADD, ITE, SLICE, JOIN, SHL, SHR, Rel, ULE, ULT, NE, op, rel, kind_of}
use Rattle.rules.specs.KindNumbers.{op_number, rel_number}
use Rattle.rules.specs.ProperProblem.{KindNumber}

pub kind_op : (o : Op) → kind_of (op_number o) ≡ op o
unfolding kind_of
kind_op COPY = refl
kind_op NOT = refl
kind_op AND = refl
kind_op OR = refl
kind_op XOR = refl
kind_op ADD = refl
kind_op ITE = refl
kind_op SLICE = refl
kind_op JOIN = refl
kind_op SHL = refl
kind_op SHR = refl

pub op_number_lem : (o : Op) → KindNumber (op_number o)
op_number_lem COPY = omega arith
op_number_lem NOT = omega arith
op_number_lem AND = omega arith
op_number_lem OR = omega arith
op_number_lem XOR = omega arith
op_number_lem ADD = omega arith
op_number_lem ITE = omega arith
op_number_lem SLICE = omega arith
op_number_lem JOIN = omega arith
op_number_lem SHL = omega arith
op_number_lem SHR = omega arith

pub kind_rel : (c : Rel) → kind_of (rel_number c) ≡ rel c
unfolding kind_of
kind_rel ULE = refl
kind_rel ULT = refl
kind_rel NE = refl

pub rel_number_lem : (c : Rel) → KindNumber (rel_number c)
rel_number_lem ULE = omega arith
rel_number_lem ULT = omega arith
rel_number_lem NE = omega arith
