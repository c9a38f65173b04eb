-- To be believed: the search of the problem made of a script, and what its outcome says of the script.
use Rattle.std.specs.Prelude.{List, ℕ}
use Rattle.words.specs.Table.{Table}
use Rattle.rules.specs.Tight.{Tight}
use Rattle.rules.specs.Tightening.{Widest}
use Rattle.search_theory.specs.Search.{Outcome, found, none, gave_up, Search}
use Rattle.scripts.specs.Tree.{Script}
use Rattle.scripts.specs.Denotes.{Satisfies, Least}
use Rattle.scripts.specs.Making.{problem_made, declared_in}

-- the published search of a script's problem comes to o
abbrev pub ScriptSearch : Script → ℕ → Outcome → Type 0
ScriptSearch s limit o = Search (Tight (problem_made s).widths (problem_made s).rules) limit (problem_made s).table 0 o

-- the first tightening of a script's problem gives u
abbrev pub ScriptTightened : Script → Table → Type 0
ScriptTightened s u = Widest (Tight (problem_made s).widths (problem_made s).rules) (problem_made s).table u

-- what is found begins with the least values that satisfy the script; where none is said no values satisfy it
abbrev pub ScriptRight : Script → Outcome → Type 0
ScriptRight s (found v n) = Least s (declared_in s v)
ScriptRight s (none n) = (vs : List ℕ) → ¬ Satisfies s vs
ScriptRight s gave_up = Unit {0}
