use native.Mathlib.Omega.{arith}
use borrow.Author.Rules.{rules}
use Rattle.lists.specs.Tests.{holds, fails}
use Rattle.reader.proofs.Gaps.{clear_none, clear_more, clear_all}
use Rattle.reader.proofs.block.is_clear.Goals as goal

pub loop-x-init : goal.loop-x-init
loop-x-init c = (search rules, clear_none _ _)

pub returns-then-b-x-ne0 : goal.returns-then-b-x-ne0
returns-then-b-x-ne0 c = fails (λ h. c.if-b-x-ne0.true (h.zero_at c.loop-x.x c.loop-x.invariant.0 (omega arith)))

pub loop-x-preserved : goal.loop-x-preserved
loop-x-preserved c = (omega arith, clear_more _ _ _ c.loop-x.invariant.1 c.if-b-x-ne0.false)

pub returns : goal.returns
returns c = holds (clear_all _ _ _ _ c.loop-x.invariant.1 (omega arith))
