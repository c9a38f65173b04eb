use mathlib.Core.Path.{sym, ◌∙◌}
use native.Mathlib.Omega.{arith}
use Rattle.explain.proofs.Questions.{place_used, not_used, not_below, not_open, top_decides}
use Rattle.explain.proofs.asking.is_open.Goals as goal

pub returns-then-not-uses : goal.returns-then-not-uses
returns-then-not-uses c = not_used _ _ _ _ (sym c.uses.ensures ∙ c.if-not-uses.true)

pub returns-then-at-q : goal.returns-then-at-q
returns-then-at-q c = not_below _ _ _ _ (omega (arith, c.at.ensures, c.if-at-q.true))

pub returns-then-bit_of-eq1 : goal.returns-then-bit_of-eq1
returns-then-bit_of-eq1 c =
    not_open _ _ _ _ (rw c.at-x.ensures at c.bit_of.ensures) c.if-bit_of-eq1.true

pub returns : goal.returns
returns c =
    top_decides _ _ _ _ (place_used _ _ c.uses.ensures c.if-not-uses.false) (omega (arith, c.at.ensures, c.if-at-q.false))
    (rw c.at-x.ensures at c.bit_of.ensures) c.if-bit_of-eq1.false (rw c.at-x.ensures at c.bit_of-2.ensures)
