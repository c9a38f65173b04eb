use borrow.Author.Rules.{rules}
use Rattle.report.proofs.Puts.{at_end}
use Rattle.report.proofs.Reports.{refused_put}
use Rattle.report.proofs.printing.put_refused.Goals as goal

pub returns : goal.returns
returns c = at_end (refused_put _ _ c.line.ensures.0.there) (search rules)
