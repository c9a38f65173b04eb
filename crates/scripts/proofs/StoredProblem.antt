-- The problem made of a script, as lent numbers: a proper problem, whose search is the script's; so the refusals 4 to 8 cannot come.
use mathlib.Core.Logic.{◌↔◌}
use Prim.Native.Nat.{ℕ, ◌^◌, ◌≤◌}
use native.Mathlib.Omega.{arith}
use lib.ListN.{length}
use Rattle.lists.specs.Lists.{Under}
use Rattle.rules.specs.Tight.{Tight}
use Rattle.rules.specs.ProperProblem.{most_words, most_rules, ProperProblem}
use Rattle.problem.specs.Lent.{widths_of, table_of, rules_of}
use Rattle.search_theory.specs.Search.{Outcome, Search}
use Rattle.scripts.specs.Tree.{Script}
use Rattle.scripts.specs.Sizes.{WellFormed}
use Rattle.scripts.specs.Making.{problem_made}
use Rattle.scripts.specs.Answers.{ScriptSearch}
use Rattle.scripts.specs.Stored.{stored_words, stored_rules}
use Rattle.scripts.proofs.ReadBack.{widths_back, table_back, rules_back, words_under, rules_under}
use Rattle.scripts.proofs.SameSettings.{problem_draft, problem_proper}

module _ (s : Script) (ok : WellFormed s) where
  -- what is lent stands for a proper problem, unless words or rules run out
  pub stored_proper : length (problem_made s).widths ≤ most_words → length (problem_made s).rules ≤ most_rules
      → ProperProblem (widths_of (stored_words (problem_made s))) (table_of (stored_words (problem_made s))) (rules_of (stored_rules (problem_made s)))
  stored_proper m n = rw (widths_back (problem_made s), table_back (problem_made s) (problem_draft s ok), rules_back (problem_made s)) (problem_proper s ok m n)

  -- the search of what is lent is that of the script's problem
  pub stored_search : (limit : ℕ) (o : Outcome)
      → Search (Tight (widths_of (stored_words (problem_made s))) (rules_of (stored_rules (problem_made s)))) limit
      (table_of (stored_words (problem_made s))) 0 o
      ↔ ScriptSearch s limit o
  stored_search limit o =
      rw (widths_back (problem_made s), table_back (problem_made s) (problem_draft s ok), rules_back (problem_made s)) (λ x. x, λ x. x)

  -- its numbers have 64 bits, and its rules are bytes
  pub stored_numbers : Under (2 ^ 64) (stored_words (problem_made s))
  stored_numbers = words_under (problem_made s) (problem_draft s ok)

  pub stored_bytes : length (problem_made s).widths ≤ most_words → Under 256 (stored_rules (problem_made s))
  stored_bytes m = rules_under (problem_made s) (problem_draft s ok) (omega arith)
