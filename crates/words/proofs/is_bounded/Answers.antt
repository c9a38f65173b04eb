use borrow.Author.Tests.{eq-eqb, ne_eqb}
use Rattle.words.proofs.is_bounded.Goals as goal

pub returns-then-lo-hi : goal.returns-then-lo-hi
returns-then-lo-hi c = rw (ne_eqb _ _ c.if-lo-hi.true)

pub returns : goal.returns
returns c = rw (eq-eqb _ _ c.if-lo-hi.false, c.mask.ensures)
