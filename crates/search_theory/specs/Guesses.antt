-- To be believed: the number G of a search: what the published search comes to at every limit.
use Rattle.std.specs.Prelude.{List, ℕ, ◌≤◌, ◌<◌}
use Rattle.words.specs.Table.{Table}
use Rattle.search_theory.specs.Settings.{First, Without}
use Rattle.search_theory.specs.Search.{Outcome, found, none, gave_up, Search}

-- an answer with count n: FOUND with the first settings, or NONE where there are none
pub data Answers (Holds : List ℕ → Type 0) (t : Table) (n : ℕ) : Outcome → Type 0 where
  answers_found : {v : List ℕ} → First Holds t v → Answers Holds t n (found v n)
  answers_none : Without Holds t → Answers Holds t n (none n)

-- at a limit of at least G the search answers, with count G; at a limit below G it gives up
pub record Guesses (Tight : Table → Type 0) (Holds : List ℕ → Type 0) (t : Table) (G : ℕ) : Type 0 where
  pub outcome : Outcome
  pub answers : Answers Holds t G outcome
  pub enough : (limit : ℕ) → G ≤ limit → Search Tight limit t 0 outcome
  pub fewer : (limit : ℕ) → limit < G → Search Tight limit t 0 gave_up
