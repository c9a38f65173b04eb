use borrow.Author.Rules.{rules}
use lib.Bits.{xor_lt}
use Rattle.words.proofs.Single.{leading_low}
use mathlib.Core.Path.{refl}
use lib.Count.{count_leading_zeros}
use Rattle.words.specs.Word.{top_open}
use Rattle.words.proofs.highest_open.Goals as goal

pub overflow_sub-result : goal.overflow_sub-result
overflow_sub-result c = leading_low _ c.requires (xor_lt 64 c.args.lo c.args.hi (search rules) (search rules))

pub returns : goal.returns
unfolding top_open count_leading_zeros
returns c = refl
