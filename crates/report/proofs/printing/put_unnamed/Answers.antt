use borrow.Author.Rules.{rules}
use Rattle.report.proofs.Puts.{at_end}
use Rattle.report.proofs.Reports.{unnamed_put}
use Rattle.report.proofs.printing.put_unnamed.Goals as goal

pub returns : goal.returns
returns c =
    at_end (unnamed_put _ _ c.line.ensures.0.there c.line-2.ensures.0.there) (search rules)
