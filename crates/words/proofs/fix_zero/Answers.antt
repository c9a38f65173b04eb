use Rattle.words.proofs.OneBit.{one_shl, bit_le}
use Rattle.words.proofs.fix_zero.Goals as goal

pub overflow_sub-result : goal.overflow_sub-result
overflow_sub-result c = rw (one_shl c.args.j c.requires.0) (bit_le c.args.j _ c.requires.1)

pub returns : goal.returns
returns c = rw (one_shl c.args.j c.requires.0)
