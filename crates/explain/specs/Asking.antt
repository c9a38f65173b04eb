-- Mirrors code: a question about a rule: which place and bit may be asked for, and what an answer of the code is in the paper's words.
-- To be believed: `OpenBit`.
use Rattle.std.specs.Prelude.{◌≡◌, Bool, true, false, ℕ, ◌≤◌, ◌<◌, eqb, Option, None, Some}
use Rattle.words.specs.Bits.{bit}
use Rattle.rules.specs.Kinds.{Place}
use Rattle.rules.specs.Meaning.{Shape}
use Rattle.rules.specs.Fits.{Span, Uses, Legal}
use Rattle.problem.specs.Named.{place_named}
use Rattle.problem.specs.Places.{Bounds, lo_of, hi_of, shape_of, span_of}
use Rattle.reason_theory.specs.Says.{Answer, CONFLICT, FORCED, FREE}
use Rattle.explain.specs.declared.Question.{Question}
use Rattle.explain.specs.declared.Said.{Said}
use Rattle.explain.specs.declared.Said.TheVariants as said
use Rattle.explain.specs.Places.{last, place_of}

-- the rule that a question is about, and the place
abbrev pub shape_in : Question → Shape
shape_in q = shape_of q.kind q.k q.w

abbrev pub place_in : Question → Place
place_in q = place_named q.place

-- what the code's answer is
abbrev pub answer : Said → Answer
answer said.Conflict = CONFLICT
answer (said.Forced b) = FORCED b
answer said.Free = FREE

-- what the code reads off a narrowing: whether there is a fit, and the bit in both bounds of the hull
abbrev pub by_hull : Bool → ℕ → Said
by_hull true b = said.Forced b
by_hull false b = said.Free

unfoldable pub said_by : Question → Option Bounds → Said
said_by q None = said.Conflict
said_by q (Some u) = by_hull (eqb (bit (lo_of u (place_in q)) q.bit) (bit (hi_of u (place_in q)) q.bit)) (bit (lo_of u (place_in q)) q.bit)

-- place number p is one that the rule uses, and bit j there is below the width and open
pub record OpenBit (σ : Shape) (t : Span) (p j : ℕ) : Type 0 where
  pub place : p ≤ last
  pub used : Uses σ (place_of p)
  pub below : j < σ.width (place_of p)
  pub off : bit (t.lo (place_of p)) j ≡ 0
  pub on : bit (t.hi (place_of p)) j ≡ 1

-- what is known of a question when the rule is asked, over the bounds t
pub record Asks (q : Question) (t : Bounds) : Type 0 where
  pub legal : Legal (shape_in q) (span_of t)
  pub used : Uses (shape_in q) (place_in q)
  pub small : q.bit < 64
