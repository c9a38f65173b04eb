use native.Mathlib.Omega.{arith}
use Rattle.checker.proofs.Handed.{handed_on}
use Rattle.reader.proofs.Keeps.{scan_refused, too_short}
use Rattle.reader.proofs.read.Goals as goal

pub returns-then-words-lt-WORDS : goal.returns-then-words-lt-WORDS
returns-then-words-lt-WORDS c = too_short (λ r. omega (arith, r.words))

pub returns-then-rules-lt-RULES : goal.returns-then-rules-lt-RULES
returns-then-rules-lt-RULES c = too_short (λ r. omega (arith, r.rules))

pub returns-in_err-x : goal.returns-in_err-x
returns-in_err-x c =
    rw (handed_on c.from_residual.result c.from_residual.ensures.1) (scan_refused (record { words = omega arith; rules = omega arith }) c.in_err-x.ensures)
