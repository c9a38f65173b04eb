-- Mirrors code: one rule's narrowing put into work memory: its fields, the bounds and widths of its words, and bounds met with others.
use Rattle.std.specs.Prelude.{Bool, true, false, not, ◌||◌, List, ℕ, ◌+◌, eqb, set, Option, None, Some}
use Rattle.std.specs.Int.Bits.{bit_and, bit_or}
use Rattle.words.specs.Bits.{under}
use Rattle.lists.specs.Lists.{at}
use Rattle.problem.specs.declared.Span.{Span}
use Rattle.problem.specs.Places.{Bounds}
use Rattle.problem.specs.declared.Fields.{Fields}

-- the bounds of word i
abbrev pub work_pair : List ℕ → ℕ → Span
work_pair l i = record { lo = at l i; hi = at l (i + 32) }

-- the bounds of the words at a rule's places
abbrev pub work_bounds : List ℕ → Fields → Bounds
work_bounds l x = record { r = work_pair l x.r; a = work_pair l x.a; b = work_pair l x.b; s = work_pair l x.s }

-- work memory, and what meeting has come to: whether a bound changed, or none where there is no fit
pub record State : Type 0 where
  pub met : Option Bool
  pub memory : List ℕ

-- no bound has changed
abbrev pub untouched : List ℕ → State
untouched l = record { met = Some false; memory = l }

-- new bounds x and y for word i, where there is a fit
abbrev pub stored : Bool → Bool → List ℕ → ℕ → ℕ → ℕ → State
stored true c l i x y = record { met = Some c; memory = set (set l i x) (i + 32) y }
stored false c l i x y = record { met = None; memory = l }

-- the bounds of word i met with a and b, after meetings that came to r; after one without a fit nothing is stored
abbrev pub met_after : Option Bool → List ℕ → ℕ → ℕ → ℕ → State
met_after None l i a b = record { met = None; memory = l }
met_after (Some c) l i a b =
    stored (under (bit_or (at l i) a) (bit_and (at l (i + 32)) b))
    (c || (not (eqb (bit_or (at l i) a) (at l i)) || not (eqb (bit_and (at l (i + 32)) b) (at l (i + 32)))))
    l i (bit_or (at l i) a) (bit_and (at l (i + 32)) b)

unfoldable pub met_by : State → ℕ → ℕ → ℕ → State
met_by z i a b = met_after z.met z.memory i a b

-- at all places of a rule
unfoldable pub met_all : State → Fields → Bounds → State
met_all z x t = met_by (met_by (met_by (met_by z x.r t.r.lo t.r.hi) x.a t.a.lo t.a.hi) x.b t.b.lo t.b.hi) x.s t.s.lo t.s.hi
