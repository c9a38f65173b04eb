use mathlib.Core.Path.{◌≡◌}
use Rattle.std.specs.Prelude.{Ok}
use Rattle.checker.specs.Refusal.{first_of, rule_refusal}
use Rattle.checker.proofs.rule.rules_refusal.Given as goal

abbrev pub invariant-loop-n : goal.invariant-loop-n
invariant-loop-n l = first_of l.n (rule_refusal l.words l.rules) ≡ Ok tt
