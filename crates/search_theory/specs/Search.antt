-- To be believed: the published search, as a relation between a table, the guesses made before it, and what it comes to.
-- `Tight` may be any property of tables: neither the kinds, nor how tightening is done, nor the order of rules enters here.
use Rattle.std.specs.Prelude.{List, ℕ, suc, ◌≤◌, ◌<◌}
use Rattle.search_theory.specs.Settings.{First, Without}
use Rattle.words.specs.Table.{Table, Guess, Done, with0, with1}
use Rattle.rules.specs.Tightening.{Widest, Conflict}

-- what a search comes to: settings, or none, each with the number of guesses made; or it gave up
pub data Outcome : Type 0 where
  found : List ℕ → ℕ → Outcome
  none : ℕ → Outcome
  gave_up : Outcome

-- the count that goes with an outcome: GAVE UP has count = limit
abbrev pub count : ℕ → Outcome → ℕ
count limit (found v n) = n
count limit (none n) = n
count limit gave_up = limit

-- the first value of a guess decides: it found settings, or it gave up
pub data Ends : Outcome → Type 0 where
  ends_found : {v : List ℕ} {n : ℕ} → Ends (found v n)
  ends_gave_up : Ends gave_up

-- the search of table t after g guesses
pub data Search (Tight : Table → Type 0) (limit : ℕ) : Table → ℕ → Outcome → Type 0 where
  -- tightening ends in CONFLICT: this branch has no settings
  conflict : {t : Table} {g : ℕ} → Conflict Tight t → Search Tight limit t g (none g)
  -- no open bit: these are settings
  settled : {t u : Table} {g : ℕ} → Widest Tight t u → Done u → Search Tight limit t g (found u.lo g)
  -- a guess is needed, and the limit has been used up
  stopped : {t u : Table} {g i j : ℕ} → Widest Tight t u → Guess u i j → limit ≤ g → Search Tight limit t g gave_up
  -- one guess, fixed 0: the branch finds settings, or gives up
  first : {t u : Table} {g i j : ℕ} {o : Outcome} → Widest Tight t u → Guess u i j → g < limit
      → Search Tight limit (with0 u i j) (suc g) o → Ends o → Search Tight limit t g o
  -- fixed 0 it has none: fixed 1 in the same tight table, which is not a guess
  second : {t u : Table} {g i j n : ℕ} {o : Outcome} → Widest Tight t u → Guess u i j → g < limit
      → Search Tight limit (with0 u i j) (suc g) (none n) → Search Tight limit (with1 u i j) n o → Search Tight limit t g o

-- what an outcome says of the settings: those found are the first, where none is said there are none
abbrev pub OutcomeRight : (List ℕ → Type 0) → Table → Outcome → Type 0
OutcomeRight Holds t (found v n) = First Holds t v
OutcomeRight Holds t (none n) = Without Holds t
OutcomeRight Holds t gave_up = Unit {0}

-- an answer: FOUND or NONE, with its count
pub data AnswerIs : Outcome → ℕ → Type 0 where
  answer_found : {v : List ℕ} {n : ℕ} → AnswerIs (found v n) n
  answer_none : {n : ℕ} → AnswerIs (none n) n
