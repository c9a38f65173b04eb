use Rattle.std.proofs.Common.{◌∙◌}
use Rattle.reader.proofs.Loading.{limit_bytes}
use Rattle.reader.proofs.block.limit_of.Goals as goal

pub returns : goal.returns
returns c = c.from_le_bytes.ensures ∙ limit_bytes c.args.b.now
