use Rattle.std.proofs.Common.{refl, ◌∙◌, rules}
use Rattle.std.proofs.lemmas.Iterator.{YieldsList-from_range}
use Rattle.std.proofs.lemmas.Iterator.Consumers.{fold_from_yields_List}
use Rattle.blocks.proofs.Sum.{added, sum_folds}
use Rattle.blocks.proofs.sum_of.Goals as goal

pub returns : goal.returns
returns c =
    fold_from_yields_List _ (added c.args.b.now) 0 c.fold.result c.fold.ensures.ran (YieldsList-from_range 0 256 256 refl refl) (λ a x b q k. search rules)
    ∙ sum_folds c.args.b.now
