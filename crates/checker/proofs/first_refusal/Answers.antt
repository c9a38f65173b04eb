use mathlib.Core.Path.{sym, ◌∙◌}
use borrow.Author.Tests.{not-true, not-false}
use Rattle.checker.proofs.Handed.{handed_on}
use Rattle.checker.proofs.Answers.{refused_size, refused_words, ok_words}
use Rattle.checker.proofs.first_refusal.Goals as goal

pub returns-then-not-is_sized : goal.returns-then-not-is_sized
returns-then-not-is_sized c = refused_size _ _ (sym c.is_sized.ensures ∙ not-true _ c.if-not-is_sized.true-raw)

pub returns-in_err-words_refusal : goal.returns-in_err-words_refusal
returns-in_err-words_refusal c =
    handed_on c.from_residual.result c.from_residual.ensures.1
    ∙ refused_words _ _ (sym c.is_sized.ensures ∙ not-false _ c.if-not-is_sized.false-raw) (sym c.in_err-words_refusal.ensures)

pub returns : goal.returns
returns c =
    c.rules_refusal.ensures
    ∙ ok_words _ _ (sym c.is_sized.ensures ∙ not-false _ c.if-not-is_sized.false-raw) (sym c.in_ok-words_refusal.ensures)
