use Rattle.report.proofs.Advice.{lines_advice}
use Rattle.report.proofs.program.lines_of.Goals as goal

pub returns : goal.returns
returns c =
    lines_advice c.requires c.advise.ensures c.unwrap-n.ensures
