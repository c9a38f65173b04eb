use mathlib.Core.Path.{refl}
use Rattle.report.proofs.Naming.{trials_asked, cause_told, unnamed_told, never_exists}
use Rattle.report.proofs.tell_none.Goals as goal

pub trials-requires : goal.trials-requires
trials-requires c =
    trials_asked _ refl c.requires.0 c.requires.1

pub returns-in-Cause : goal.returns-in-Cause
returns-in-Cause c =
    cause_told c.trials.ensures c.in-Cause.is c.requires.1 c.put_unsat.ensures

pub returns-in-GaveUp : goal.returns-in-GaveUp
returns-in-GaveUp c =
    unnamed_told c.trials.ensures c.in-GaveUp.is c.requires.1 c.put_unnamed.ensures

pub unreachable-requires : goal.unreachable-requires
unreachable-requires c =
    absurd (never_exists c.trials.ensures c.in-Exists.is c.requires.1)
