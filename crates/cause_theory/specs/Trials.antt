-- To be believed: the searches that are made for a cause, and the ceiling of each.
use mathlib.Core.List.{List, [], ◌∷◌}
use Rattle.std.specs.Prelude.{ℕ, ◌+◌}
use Rattle.words.specs.Table.{Table}
use Rattle.rules.specs.Tight.{Rule, Tight}
use Rattle.rules.specs.Tightening.{Widest, Conflict}
use Rattle.search_theory.specs.Ceiling.{Ceiling}
use Rattle.cause_theory.specs.Cause.{Cause, trial, Trims, decided, spared, needed, unknown, Causes, exists, gives_up, trimmed}

-- the lists of rules that were tried
module _ {w : List ℕ} {rs : List Rule} {limit : ℕ} {t : Table} where
  unfoldable pub trials : {n c : ℕ} {kept : List ℕ} {x : Cause} → Trims w rs limit t n kept c x → List (List Rule)
  trials decided = []
  trials (spared {n = n} {kept = kept} s r) = trial rs n kept ∷ trials r
  trials (needed {n = n} {kept = kept} s r) = trial rs n kept ∷ trials r
  trials (unknown {n = n} {kept = kept} s) = trial rs n kept ∷ []

  -- the first search, and the trials after it
  unfoldable pub searches : {x : Cause} → Causes w rs limit t x → List (List Rule)
  unfolding trials
  searches (exists s) = rs ∷ []
  searches (gives_up s) = rs ∷ []
  searches (trimmed s r) = rs ∷ trials r

-- a number for each list of rules, added up
abbrev pub sum_over : (List Rule → ℕ) → List (List Rule) → ℕ
sum_over C [] = 0
sum_over C (xs ∷ l) = C xs + sum_over C l

-- c is the ceiling of the search for the rules xs: the ceiling of the problem, and 0 where its table conflicts
pub data SearchCeiling (w : List ℕ) (t : Table) (xs : List Rule) : ℕ → Type 0 where
  tightens : {u : Table} {c : ℕ} → Widest (Tight w xs) t u → Ceiling xs t u c → SearchCeiling w t xs c
  conflicts : Conflict (Tight w xs) t → SearchCeiling w t xs 0
