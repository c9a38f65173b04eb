-- To be believed: what the call `solve` promises: its answer, and every lent number afterwards.
use Rattle.std.specs.Prelude.{◌≡◌, List, ℕ, ◌≤◌, ◌<◌, length, Result, Ok, Err}
use Rattle.words.specs.Table.{Table}
use Rattle.lists.specs.Lists.{at}
use Rattle.rules.specs.Tight.{Tight, AllHold}
use Rattle.checker.specs.declared.refusal.Refusal.{Refusal}
use Rattle.problem.specs.Lent.{word_count, widths_of, table_of, rules_of}
use Rattle.checker.specs.Refusal.{Checked, refusal_with, with_room}
use Rattle.tighten.specs.Memory.{Cleared}
use Rattle.search_theory.specs.Settings.{First, Without}
use Rattle.search_theory.specs.Search.{Outcome, found, none, gave_up, Search}
use Rattle.solve.specs.declared.Solved.{Solved}
use Rattle.solve.specs.declared.Solved.TheVariants as answer

-- the numbers of work memory that the call asks for
abbrev pub solve_work : ℕ
solve_work = 4608

-- refusal 1 for memory or a model that is too short, then the refusals of the problem and its limit
unfoldable pub solve_refusal : ℕ → List ℕ → List ℕ → List ℕ → List ℕ → Checked
solve_refusal limit ws bs model work = with_room solve_work (length work) (word_count ws) (length model) (refusal_with limit ws bs)

-- nothing is refused
pub record SolveGiven (limit : ℕ) (ws bs model work : List ℕ) : Type 0 where
  pub passed : solve_refusal limit ws bs model work ≡ Ok tt

-- the first n numbers of v stand in model', which else is as model
pub record Stored (n : ℕ) (v model model' : List ℕ) : Type 0 where
  pub size : length model' ≡ length model
  pub each : (i : ℕ) → i < n → at model' i ≡ at v i
  pub rest : (i : ℕ) → n ≤ i → at model' i ≡ at model i

-- the published search of the lent problem comes to an outcome
abbrev pub Comes : ℕ → List ℕ → List ℕ → Outcome → Type 0
Comes limit ws bs o = Search (Tight (widths_of ws) (rules_of bs)) limit (table_of ws) 0 o

-- words ws, rules bs, a limit, a model and work memory were lent; the answer comes back, and model' and work' stand in model and memory afterwards
pub data Solving (limit : ℕ) (ws bs model work : List ℕ) : Result Solved Refusal → List ℕ → List ℕ → Type 0 where
  refused : {r : Refusal} → solve_refusal limit ws bs model work ≡ Err r → Solving limit ws bs model work (Err r) model work
  found_first : {v model' work' : List ℕ} {g : ℕ} → SolveGiven limit ws bs model work → Comes limit ws bs (found v g)
      → Stored (word_count ws) v model model' → Cleared work work'
      → Solving limit ws bs model work (Ok (answer.Found g)) model' work'
  found_none : {work' : List ℕ} {g : ℕ} → SolveGiven limit ws bs model work → Comes limit ws bs (none g) → Cleared work work'
      → Solving limit ws bs model work (Ok (answer.Nothing g)) model work'
  gave_up_at : {work' : List ℕ} → SolveGiven limit ws bs model work → Comes limit ws bs gave_up → Cleared work work'
      → Solving limit ws bs model work (Ok (answer.GaveUp limit)) model work'

-- settings of the lent problem, the first of them; and that there are none
abbrev pub FirstSettings : List ℕ → List ℕ → List ℕ → Type 0
FirstSettings ws bs v = First (AllHold (widths_of ws) (rules_of bs)) (table_of ws) v

abbrev pub NoSettings : List ℕ → List ℕ → Type 0
NoSettings ws bs = Without (AllHold (widths_of ws) (rules_of bs)) (table_of ws)

-- the answer by the problem's number G of guesses: FOUND or NONE with count G where the limit reaches it, FOUND if there are settings;
-- GAVE UP where it does not
pub data Answered (limit G : ℕ) (ws bs : List ℕ) : Result Solved Refusal → Type 0 where
  reached_found : {v : List ℕ} → G ≤ limit → FirstSettings ws bs v → Answered limit G ws bs (Ok (answer.Found G))
  reached_none : G ≤ limit → NoSettings ws bs → Answered limit G ws bs (Ok (answer.Nothing G))
  not_reached : limit < G → Answered limit G ws bs (Ok (answer.GaveUp limit))

-- all rules of the lent problem hold; a table is tight for them
-- the rules hold, and the notion of tight, of the lent problem
abbrev pub Holding : List ℕ → List ℕ → List ℕ → Type 0
Holding ws bs = AllHold (widths_of ws) (rules_of bs)

abbrev pub Tightly : List ℕ → List ℕ → Table → Type 0
Tightly ws bs = Tight (widths_of ws) (rules_of bs)
