use mathlib.Core.Path.{ap, ◌∙◌}
use native.Mathlib.Omega.{arith}
use Rattle.lists.specs.Lists.{put}
use Rattle.writer.proofs.Puts.{sealed}
use Rattle.writer.proofs.bytes.finish.Goals as goal

pub returns : goal.returns
returns c =
    let e = (rw c.unwrap.ensures at c.as_array.ensures.cases).same in
    sealed c.put_zeros.new.b _ c.put_bytes.new.b c.sum_of-s.result c.put_zeros.ensures (rw e at c.sum_of-s.ensures) (omega arith)
    (c.put_bytes.ensures ∙ ap (put c.put_zeros.new.b 6) c.to_le_bytes.ensures)
