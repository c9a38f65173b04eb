use borrow.Author.Rules.{rules}
use Rattle.report.proofs.Puts.{at_end}
use Rattle.report.proofs.Reports.{sat_put}
use Rattle.report.proofs.printing.put_sat.Goals as goal

pub returns : goal.returns
returns c =
    at_end (sat_put _ _ _ c.line.ensures.0.there c.words.ensures.there) (search rules)
