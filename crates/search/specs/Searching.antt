-- Mirrors code: what the search asks of lent memory, and what it leaves there.
use Rattle.std.specs.Prelude.{◌≡◌, List, ℕ, ◌+◌, ◌*◌, ◌≤◌, ◌<◌, ◌-◌, length}
use Rattle.std.specs.declared.ops.ControlFlow.{ControlFlow}
use Rattle.std.specs.declared.ops.ControlFlow.TheVariants.{Break, Continue}
use Rattle.words.specs.Table.{Table, Inside, Guess}
use Rattle.lists.specs.Lists.{at}
use Rattle.words.specs.Count.{open_below}
use Rattle.rules.specs.Tight.{Tight}
use Rattle.rules.specs.Tightening.{Widest}
use Rattle.problem.specs.Lent.{word_count, widths_of, rules_of}
use Rattle.tighten.specs.Memory.{table_in, chosen}
use Rattle.tighten.specs.Ready.{Tabled, Listed}
use Rattle.trail.specs.Trail.{copied, undone}
use Rattle.search_theory.specs.Search.{Outcome, found, none, gave_up, Search}
use Rattle.search.specs.declared.Answer.{Answer}
use Rattle.search.specs.declared.Answer.TheVariants.{Found, Nothing, GaveUp}
use Rattle.search.specs.declared.Level.{Level}
use Rattle.search.specs.Guessing.{copy_in, top_at, zero_at}

-- the outcome that an answer stands for, with the values v found
abbrev pub outcome_of : Answer → List ℕ → Outcome
outcome_of (Found g) v = found v g
outcome_of (Nothing g) v = none g
outcome_of GaveUp v = gave_up

-- tight for the c rules listed in memory l
abbrev pub TightIn : List ℕ → List ℕ → List ℕ → ℕ → Table → Type 0
TightIn ws bs l c = Tight (widths_of ws) (chosen (rules_of bs) l c)

-- the list, the copy and the first b entries of the trail are in m as in l
pub record Frame (b : ℕ) (l m : List ℕ) : Type 0 where
  pub size : length m ≡ length l
  pub same : (i : ℕ) → 64 ≤ i → i < 380 + 2 * b → at m i ≡ at l i

-- what the search asks: a proper table inside the copy, rules listed, and room on the trail for as many entries as the copy has open bits
pub record Begun (ws bs l : List ℕ) (c b used limit : ℕ) : Type 0 where
  pub tabled : Tabled ws l
  pub listed : Listed bs l c
  pub few : c ≤ 252
  pub copy : Inside (table_in (word_count ws) l) (copy_in (word_count ws) l)
  pub room : 380 + 2 * (b + open_below (word_count ws) (copy_in (word_count ws) l)) ≤ length l
  pub within : used ≤ limit

-- memory l was searched with `used` guesses made, the answer is r, and m is left: the published search of its table comes to that
pub record Searched (ws bs : List ℕ) (c limit : ℕ) (l : List ℕ) (b used : ℕ) (r : Answer) (m : List ℕ) : Type 0 where
  pub search : Search (TightIn ws bs l c) limit (table_in (word_count ws) l) used (outcome_of r (table_in (word_count ws) m).lo)
  pub frame : Frame b l m

-- a guess at word i was made: the copy is the tight table, the table has the guess fixed 0, and the entries from b to e take the copy back
pub record Guessed (ws bs : List ℕ) (c limit : ℕ) (l : List ℕ) (b used i e : ℕ) (m : List ℕ) : Type 0 where
  pub widest : Widest (TightIn ws bs l c) (table_in (word_count ws) l) (copy_in (word_count ws) m)
  pub guess : Guess (copy_in (word_count ws) m) i (top_at (copy_in (word_count ws) m) i)
  pub allowed : used < limit
  pub table : table_in (word_count ws) m ≡ zero_at (copy_in (word_count ws) m) i
  pub size : length m ≡ length l
  pub list : (q : ℕ) → 64 ≤ q → q < 316 → at m q ≡ at l q
  pub trail : (q : ℕ) → 380 ≤ q → q < 380 + 2 * b → at m q ≡ at l q
  pub back : (q : ℕ) → q < 64 → undone m b (e - b) (copied m) q ≡ copied l q
  pub entries : b ≤ e
  pub room : 380 + 2 * (e + open_below (word_count ws) (copy_in (word_count ws) m)) ≤ length m

-- what one table has come to
abbrev pub Prepared : List ℕ → List ℕ → ℕ → ℕ → List ℕ → ℕ → ℕ → ControlFlow Answer Level → List ℕ → Type 0
Prepared ws bs c limit l b used (Break a) m = Searched ws bs c limit l b used a m
Prepared ws bs c limit l b used (Continue v) m = Guessed ws bs c limit l b used v.word v.entries m
