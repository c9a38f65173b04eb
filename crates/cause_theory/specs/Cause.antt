-- To be believed: the cause of having no settings: the rules that remain when, from the last to the first, each that can be spared is dropped.
use Rattle.std.specs.Prelude.{List, [], ◌∷◌, ◌++◌, map, ℕ, zero, suc, ◌+◌, length, take}
use Rattle.words.specs.Table.{Table}
use Rattle.rules.specs.Tight.{Rule, rule, Tight}
use Rattle.search_theory.specs.Search.{Outcome, found, none, gave_up, Search}

-- what is answered: settings exist; the cause, as rule numbers; or a search gave up. Each with the sum of the counts of all searches made
pub data Cause : Type 0 where
  EXISTS : ℕ → Cause
  CAUSE : List ℕ → ℕ → Cause
  GAVE_UP : ℕ → Cause

-- the rules of a trial: those numbered below n, which are not decided yet, and those of the list, which are kept
abbrev pub trial : List Rule → ℕ → List ℕ → List Rule
trial rs n kept = take n rs ++ map (rule rs) kept

-- a search of its own, with the full limit
abbrev pub Tried : List ℕ → ℕ → Table → List Rule → Outcome → Type 0
Tried w limit t rs o = Search (Tight w rs) limit t 0 o

module _ (w : List ℕ) (rs : List Rule) (limit : ℕ) (t : Table) where
  -- The rules numbered below n are yet to be tried, highest first, after c guesses in all searches so far
  pub data Trims : ℕ → List ℕ → ℕ → Cause → Type 0 where
    -- all are decided
    decided : {kept : List ℕ} {c : ℕ} → Trims zero kept c (CAUSE kept c)
    -- without rule n the rest still has none: it is dropped
    spared : {n c d : ℕ} {kept : List ℕ} {x : Cause} → Tried w limit t (trial rs n kept) (none d) → Trims n kept (c + d) x → Trims (suc n) kept c x
    -- without it there are settings: it is kept
    needed : {n c d : ℕ} {kept v : List ℕ} {x : Cause} → Tried w limit t (trial rs n kept) (found v d) → Trims n (n ∷ kept) (c + d) x → Trims (suc n) kept c x
    -- a trial gives up, with count = limit: so does the whole
    unknown : {n c : ℕ} {kept : List ℕ} → Tried w limit t (trial rs n kept) gave_up → Trims (suc n) kept c (GAVE_UP (c + limit))

  -- first the whole problem is solved; the trials follow where it has no settings
  pub data Causes : Cause → Type 0 where
    exists : {v : List ℕ} {c : ℕ} → Tried w limit t rs (found v c) → Causes (EXISTS c)
    gives_up : Tried w limit t rs gave_up → Causes (GAVE_UP limit)
    trimmed : {c : ℕ} {x : Cause} → Tried w limit t rs (none c) → Trims (length rs) [] c x → Causes x

-- the count of each answer
abbrev pub sum_of : Cause → ℕ
sum_of (EXISTS c) = c
sum_of (CAUSE out c) = c
sum_of (GAVE_UP c) = c
