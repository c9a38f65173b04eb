-- A rule added may raise the count, though never the ceiling: one open word of width 2 takes 2 guesses, and with "it is not itself" 3.
use mathlib.Core.Path.{◌≡◌, refl, subst}
use lib.Dec.{T}
use Rattle.boards.specs.Boards.{rises}
use Rattle.lists.specs.Every.{All}
use Rattle.search_theory.proofs.Solved.{solved}
use Rattle.search_theory.proofs.TheCeiling.{some_ceiling}
use Rattle.rules.proofs.Steps.{tightened}
use Rattle.boards.specs.Row.{Follows}
use Rattle.boards.proofs.Computed.{all_sound, computed, computed_all, all_follow}

rises_sound : T (all_sound rises)
unfolding tightened
rises_sound = tt

rises_computed : computed_all rises rises_sound ≡ rises
unfolding computed solved tightened some_ceiling
rises_computed = refl

pub count_rises : All Follows rises
count_rises = subst (All Follows) rises_computed (all_follow rises rises_sound)
