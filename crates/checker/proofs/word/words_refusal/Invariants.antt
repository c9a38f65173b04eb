use mathlib.Core.Path.{◌≡◌}
use Rattle.std.specs.Prelude.{Ok}
use Rattle.checker.specs.Refusal.{first_of, word_refusal}
use Rattle.checker.proofs.word.words_refusal.Given as goal

abbrev pub invariant-loop-i : goal.invariant-loop-i
invariant-loop-i l = first_of l.i (word_refusal l.words) ≡ Ok tt
