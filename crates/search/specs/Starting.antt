-- Mirrors code: the search of a problem's own table, for the rules listed in lent memory.
use Rattle.std.specs.Prelude.{◌≡◌, List, ℕ, ◌≤◌, ◌<◌, length}
use Rattle.lists.specs.Lists.{at}
use Rattle.problem.specs.Lent.{word_count, table_of}
use Rattle.tighten.specs.Memory.{table_in}
use Rattle.tighten.specs.Ready.{Listed}
use Rattle.search_theory.specs.Search.{Search}
use Rattle.search.specs.declared.Answer.{Answer}
use Rattle.search.specs.Searching.{outcome_of, TightIn}

-- the numbers of memory that every search finds enough: the table, the list, the copy, and two numbers for each of 2,048 bits
abbrev pub memory_length : ℕ
memory_length = 4476

-- c of a problem's rules bs are listed in memory
pub record ToSearch (bs l : List ℕ) (c : ℕ) : Type 0 where
  pub listed : Listed bs l c
  pub few : c ≤ 252
  pub room : memory_length ≤ length l

-- the answer is that of the published search of the problem's table, for the rules listed, and the list stays
pub record Sought (ws bs : List ℕ) (c limit : ℕ) (l : List ℕ) (r : Answer) (m : List ℕ) : Type 0 where
  pub search : Search (TightIn ws bs l c) limit (table_of ws) 0 (outcome_of r (table_in (word_count ws) m).lo)
  pub size : length m ≡ length l
  pub list : (i : ℕ) → 64 ≤ i → i < 316 → at m i ≡ at l i
