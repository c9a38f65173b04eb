use mathlib.Core.Path.{◌∙◌, ap}
use Rattle.rules.specs.Rows.{class}
use Rattle.checker.proofs.RowNumbers.{fitting}
use Rattle.checker.proofs.rule.is_fitting.Goals as goal

pub returns : goal.returns
returns c =
    rw c.from.ensures at c.fits.ensures
    ∙ fitting c.args.words.now c.args.x _ _ (c.class.ensures ∙ ap class c.requires) (rw c.words.ensures at c.widths_of-w.ensures)
