use Rattle.writer.proofs.Puts.{zeros_put}
use Rattle.writer.proofs.bytes.put_zeros.Goals as goal

pub returns : goal.returns
returns c = zeros_put c.args.b.now c.fill.new.self c.args.at c.args.k c.requires (c.fill.ensures.after (λ y e. e))
