use Rattle.blocks.specs.Bytes.{le}
use Rattle.blocks.specs.Written.{headed}
use Rattle.writer.proofs.bytes.put_head.Goals as goal

pub returns : goal.returns
unfolding headed le
returns c = rw (c.to_le_bytes.ensures, c.to_le_bytes-2.ensures) at c.put_bytes.ensures
