-- To be believed: the widths and bounds of a rule's places, held by value, as those that the rules speak of.
use Rattle.std.specs.Prelude.{ℕ, Option, bit_or, bit_and}
use Rattle.std.specs.Bool.{then_some}
use Rattle.words.specs.Bits.{under}
use Rattle.rules.specs.Kinds.{Place, R, A, B, S, Kind}
use Rattle.rules.specs.Meaning.{Shape}
use Rattle.rules.specs.Fits.{Span}
use Rattle.problem.specs.declared.Places.{Places}
use Rattle.problem.specs.declared.Span as problem
use Rattle.problem.specs.declared.kinds.Kind as kinds
use Rattle.problem.specs.Named.{kind_named}

abbrev pub Widths : Type 0
Widths = Places ℕ

abbrev pub Bounds : Type 0
Bounds = Places problem.Span

-- what stands at each place
abbrev pub at_place : {A : Type 0} → Places A → Place → A
at_place x R = x.r
at_place x A = x.a
at_place x B = x.b
at_place x S = x.s

-- the width at each
abbrev pub width_of : Widths → Place → ℕ
width_of = at_place

-- the two bounds at each
abbrev pub pair_of : Bounds → Place → problem.Span
pair_of = at_place

abbrev pub lo_of : Bounds → Place → ℕ
lo_of t p = (pair_of t p).lo

abbrev pub hi_of : Bounds → Place → ℕ
hi_of t p = (pair_of t p).hi

abbrev pub span_of : Bounds → Span
span_of t = record { lo = lo_of t; hi = hi_of t }

-- what two pairs of bounds leave: none where the low bound does not lie under the high one
abbrev pub met : problem.Span → problem.Span → Option problem.Span
met x y = then_some (under (bit_or x.lo y.lo) (bit_and x.hi y.hi)) (record { lo = bit_or x.lo y.lo; hi = bit_and x.hi y.hi })

-- a rule of a kind, and of a kind by its name in the code
abbrev pub shaped : Kind → ℕ → (Place → ℕ) → Shape
shaped κ k w = record { kind = κ; k = k; width = w }

abbrev pub shape_of : kinds.Kind → ℕ → Widths → Shape
shape_of κ k w = shaped (kind_named κ) k (width_of w)
