use Rattle.std.proofs.Common.{arith, ◌+◌, ◌*◌, rules, refl}
use Rattle.std.proofs.lemmas.Iterator.{cases_from_all, YieldsList-from_range}
use Rattle.lists.proofs.Deciding.{decided, refuted}
use Rattle.blocks.specs.Block.{Clear}
use Rattle.reader.proofs.Gaps.{gaps_decided}
use Rattle.reader.proofs.block.has_gaps.Goals as goal

pub returns : goal.returns
returns c =
    let b = c.args.b.now in
    let s = c.args.shape in
    gaps_decided s.size s.used c.args.c b c.all.result
    (cases_from_all _ _ _ (λ j. Clear b (8 + s.size * j + s.used) (8 + s.size * j + 8))
    (λ j. ¬ Clear b (8 + s.size * j + s.used) (8 + s.size * j + 8)) c.all.ensures.ran
    (YieldsList-from_range 0 c.args.c c.args.c refl (omega arith)) (λ x q k. search (rules, decided)) (λ x q k. search (rules, refuted)))
