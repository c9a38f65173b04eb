use borrow.Author.Rules.{rules}
use Rattle.report.proofs.Puts.{at_end}
use Rattle.report.proofs.Reports.{unsat_put}
use Rattle.report.proofs.printing.put_unsat.Goals as goal

pub returns : goal.returns
returns c =
    at_end (unsat_put _ _ c.line.ensures.0.there c.cause.ensures.there) (search rules)
