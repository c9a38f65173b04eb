use mathlib.Core.Path.{sym, ◌∙◌, subst}
use lib.Dec.{T}
use borrow.Author.Tests.{not-true, not-false}
use Rattle.checker.proofs.TestsMet.{width_met}
use Rattle.checker.proofs.Answers.{refused_width, refused_table, ok_word}
use Rattle.checker.proofs.word.word_refusal.Goals as goal

pub returns-then-not-one_to : goal.returns-then-not-one_to
returns-then-not-one_to c = refused_width _ _ (sym c.one_to.ensures ∙ not-true _ c.if-not-one_to.true-raw)

pub is_bounded-requires : goal.is_bounded-requires
is_bounded-requires c =
    width_met _ (subst T (sym (sym c.one_to.ensures ∙ not-false _ c.if-not-one_to.false-raw)) tt)

pub returns-then-not-is_bounded : goal.returns-then-not-is_bounded
returns-then-not-is_bounded c =
    refused_table _ _ (sym c.one_to.ensures ∙ not-false _ c.if-not-one_to.false-raw) (sym c.is_bounded.ensures ∙ not-true _ c.if-not-is_bounded.true-raw)

pub returns : goal.returns
returns c =
    ok_word _ _ (sym c.one_to.ensures ∙ not-false _ c.if-not-one_to.false-raw) (sym c.is_bounded.ensures ∙ not-false _ c.if-not-is_bounded.false-raw)
