-- Shifts by the width and by more compute their words: board L's shift at k = 4 and at k = 255, and a board whose ceiling counts its first word alone.
use mathlib.Core.Path.{◌≡◌, refl, subst}
use lib.Dec.{T}
use Rattle.boards.specs.Boards.{long_shifts}
use Rattle.words.specs.Bits.{bit}
use Rattle.lists.specs.Every.{All}
use Rattle.rules.specs.Kinds.{kind_of}
use Rattle.rules.proofs.Steps.{tightened}
use Rattle.checker.specs.Tests.{sized, are_fields, is_fitting}
use Rattle.checker.specs.Refusal.{first_of, word_refusal, rule_refusal, refusal, refusal_with}
use Rattle.search_theory.proofs.Solved.{solved}
use Rattle.search_theory.proofs.TheCeiling.{some_ceiling}
use Rattle.reason_theory.proofs.Explained.{explained}
use Rattle.boards.specs.Row.{Follows, Checks}
use Rattle.boards.proofs.Sound.{legalb}
use Rattle.boards.proofs.Computed.{all_sound, computed, computed_all, all_follow}
use Rattle.boards.proofs.Checks.{all_checked, all_check}

long_sound : T (all_sound long_shifts)
unfolding legalb kind_of tightened
long_sound = tt

long_computed : computed_all long_shifts long_sound ≡ long_shifts
unfolding computed solved tightened some_ceiling explained kind_of
long_computed = refl

pub long_shifts_follow : All Follows long_shifts
long_shifts_follow = subst (All Follows) long_computed (all_follow long_shifts long_sound)

long_pass : T (all_checked long_shifts)
unfolding refusal_with refusal first_of word_refusal rule_refusal sized are_fields is_fitting kind_of bit
long_pass = tt

pub long_shifts_checked : All Checks long_shifts
long_shifts_checked = all_check long_shifts long_pass
