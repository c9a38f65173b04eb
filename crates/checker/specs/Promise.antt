-- To be believed: what an answer of the check says: OK of a proper problem, a refusal of the first demand that is not met.
use Rattle.std.specs.Prelude.{◌≡◌, List, ℕ, ◌≤◌, Ok, Err}
use Rattle.rules.specs.ProperProblem.{ProperProblem}
use Rattle.checker.specs.declared.refusal.Refusal.{Refusal}
use Rattle.problem.specs.Lent.{widths_of, table_of, rules_of}
use Rattle.checker.specs.Demands.{Demand, Before, Sized, Met, most_guesses}
use Rattle.checker.specs.Refusals.{refusal_of}
use Rattle.checker.specs.Refusal.{Checked}

module _ (limit : ℕ) (ws bs : List ℕ) where
  -- the numbers stand for a proper problem, and none is left over
  pub record Fine : Type 0 where
    pub sized : Sized ws bs
    pub problem : ProperProblem (widths_of ws) (table_of ws) (rules_of bs)
    pub guesses : limit ≤ most_guesses

  -- d is not met, and all that is asked before it is
  pub record FirstUnmet (d : Demand) : Type 0 where
    pub unmet : ¬ Met limit ws bs d
    pub earlier : (e : Demand) → Before e d → Met limit ws bs e

  pub data Right : Checked → Type 0 where
    ok : Fine → Right (Ok tt)
    refused : {r : Refusal} (d : Demand) → refusal_of d ≡ r → FirstUnmet d → Right (Err r)

-- a proper problem, and as much lent as is needed
pub record Taken (needed lent : ℕ) (ws bs : List ℕ) : Type 0 where
  pub sized : Sized ws bs
  pub problem : ProperProblem (widths_of ws) (table_of ws) (rules_of bs)
  pub room : needed ≤ lent
