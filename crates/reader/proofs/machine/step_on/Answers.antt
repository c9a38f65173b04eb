use mathlib.Core.Path.{refl, subst}
use native.Mathlib.Omega.{arith}
use Rattle.std.proofs.Common.{ap, Some}
use Rattle.reader.specs.Tests.{Is}
use Rattle.reader.proofs.Steps.{stuck_words, stuck_rules, stuck_bad, go_words, go_rules, go_end}
use Rattle.reader.proofs.machine.step_on.Goals as goal

pub returns-in_err-c : goal.returns-in_err-c
returns-in_err-c c = rw c.from_residual.ensures (stuck_bad _ _ c.in_err-c.ensures)

pub returns-then-rules-ne0 : goal.returns-then-rules-ne0
returns-then-rules-ne0 c = stuck_words _ _ (subst (Is _ _) (ap (λ x. Some x) c.in-Words.is) c.in_ok-c.ensures) (λ p q r. c.if-rules-ne0.true p)

pub returns-then-words-ne0 : goal.returns-then-words-ne0
returns-then-words-ne0 c = stuck_words _ _ (subst (Is _ _) (ap (λ x. Some x) c.in-Words.is) c.in_ok-c.ensures) (λ p q r. c.if-words-ne0.true q)

pub returns-then-c-words : goal.returns-then-c-words
returns-then-c-words c =
    stuck_words c.args.words c.args.rules {c = c.in-Words.c} (subst (Is _ _) (ap (λ x. Some x) c.in-Words.is) c.in_ok-c.ensures) (λ p q r. omega arith)

pub returns-then-rules-ne0-2 : goal.returns-then-rules-ne0-2
returns-then-rules-ne0-2 c = stuck_rules _ _ (subst (Is _ _) (ap (λ x. Some x) c.in-Rules.is) c.in_ok-c.ensures) (λ p q. c.if-rules-ne0-2.true p)

pub returns-then-c-rules : goal.returns-then-c-rules
returns-then-c-rules c =
    stuck_rules c.args.words c.args.rules {c = c.in-Rules.c} (subst (Is _ _) (ap (λ x. Some x) c.in-Rules.is) c.in_ok-c.ensures) (λ p q. omega arith)

pub returns-else-c-words : goal.returns-else-c-words
returns-else-c-words c =
    go_words _ _ (subst (Is _ _) (ap (λ x. Some x) c.in-Words.is) c.in_ok-c.ensures) c.if-rules-ne0.false c.if-words-ne0.false refl (omega arith) refl

pub returns-else-c-rules : goal.returns-else-c-rules
returns-else-c-rules c = go_rules _ _ (subst (Is _ _) (ap (λ x. Some x) c.in-Rules.is) c.in_ok-c.ensures) c.if-rules-ne0-2.false refl (omega arith) refl

pub returns-in-End : goal.returns-in-End
returns-in-End c = go_end _ _ (subst (Is _ _) (ap (λ x. Some x) c.in-End.is) c.in_ok-c.ensures)
