use Rattle.words.proofs.OneBit.{one_shl}
use Rattle.words.proofs.Single.{set_lt}
use borrow.Author.Rules.{rules}
use Rattle.words.proofs.fix_one.Goals as goal

pub overflow_add-result : goal.overflow_add-result
overflow_add-result c = rw (one_shl c.args.j c.requires.0) (record { fits = set_lt c.args.j 64 _ c.requires.1 c.requires.0 (search rules) })

pub returns : goal.returns
returns c = rw (one_shl c.args.j c.requires.0)
