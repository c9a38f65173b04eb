-- Every row of the table of boards follows from the definitions, and nothing that it asks is refused.
use mathlib.Core.Path.{◌≡◌, refl, subst}
use lib.Dec.{T}
use Rattle.words.specs.Bits.{bit}
use Rattle.rules.specs.Kinds.{kind_of}
use Rattle.lists.specs.Every.{All}
use Rattle.rules.proofs.Steps.{tightened}
use Rattle.checker.specs.Tests.{sized, are_fields, is_fitting}
use Rattle.checker.specs.Refusal.{first_of, word_refusal, rule_refusal, refusal, refusal_with}
use Rattle.search_theory.proofs.Solved.{solved}
use Rattle.search_theory.proofs.TheCeiling.{some_ceiling}
use Rattle.reason_theory.proofs.Explained.{explained}
use Rattle.cause_theory.proofs.Named.{named}
use Rattle.blocks.specs.Bytes.{le}
use Rattle.lists.specs.Lists.{zeros, flat, total}
use Rattle.blocks.specs.Block.{sum}
use Rattle.blocks.specs.Written.{seal, blocks_for, headed, block, blocks_of, file_of, encode}
use Rattle.boards.specs.Row.{Follows, Checks}
use Rattle.boards.specs.Boards.{boards}
use Rattle.boards.proofs.Sound.{legalb}
use Rattle.boards.proofs.Computed.{all_sound, computed, computed_all, all_follow}
use Rattle.boards.proofs.Checks.{all_checked, all_check}

boards_sound : T (all_sound boards)
unfolding legalb kind_of tightened
boards_sound = tt

-- the answers computed are those of the table
boards_computed : computed_all boards boards_sound ≡ boards
unfolding computed solved tightened some_ceiling explained named kind_of encode file_of blocks_of blocks_for flat block headed seal sum total le zeros
boards_computed = refl

pub boards_follow : All Follows boards
boards_follow = subst (All Follows) boards_computed (all_follow boards boards_sound)

boards_pass : T (all_checked boards)
unfolding refusal_with refusal first_of word_refusal rule_refusal sized are_fields is_fitting kind_of bit
boards_pass = tt

-- so each row speaks of a problem, and of a question, that the calls take
pub boards_checked : All Checks boards
boards_checked = all_check boards boards_pass
