use Rattle.checker.proofs.Answers.{refused_limit, ok_limit}
use Rattle.checker.proofs.limit_refusal.Goals as goal

pub returns-then-limit-gt-GUESSES : goal.returns-then-limit-gt-GUESSES
returns-then-limit-gt-GUESSES c = refused_limit _ c.if-limit-gt-GUESSES.true

pub returns : goal.returns
returns c = ok_limit _ c.if-limit-gt-GUESSES.false
