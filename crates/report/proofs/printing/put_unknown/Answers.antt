use borrow.Author.Rules.{rules}
use Rattle.report.proofs.Puts.{at_end}
use Rattle.report.proofs.Reports.{unknown_put}
use Rattle.report.proofs.printing.put_unknown.Goals as goal

pub returns : goal.returns
returns c = at_end (unknown_put _ c.line.ensures.0.there) (search rules)
