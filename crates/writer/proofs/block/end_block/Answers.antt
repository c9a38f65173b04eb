use mathlib.Core.Path.{ap, ◌∙◌}
use native.Mathlib.Omega.{arith}
use Rattle.lists.specs.Lists.{put}
use Rattle.blocks.specs.Bytes.{le}
use Rattle.blocks.proofs.Numbers.{length_le}
use Rattle.writer.proofs.Filled.{block_put}
use Rattle.writer.proofs.Puts.{four_bytes}
use Rattle.writer.proofs.block.end_block.Goals as goal

pub returns : goal.returns
returns c =
    let n = length_le 4 c.args.limit in
    block_put c.args.b.now c.put_head.new.b c.put_bytes.new.b c.finish.new.b 3 c.args.i 0 12 (le 4 c.args.limit) c.requires (omega arith) (omega arith)
    c.put_head.ensures (c.put_bytes.ensures ∙ ap (put c.put_head.new.b 8) (c.to_le_bytes.ensures ∙ four_bytes _)) c.finish.ensures
