-- Mirrors code: what is known of lent memory before a rule is applied, and what is promised after it.
use Rattle.std.specs.Prelude.{◌≡◌, Bool, true, false, List, ℕ, ◌+◌, ◌≤◌, ◌<◌, length, Option}
use Rattle.words.specs.Table.{Table}
use Rattle.lists.specs.Lists.{at}
use Rattle.rules.specs.Tight.{TightAt, Tight}
use Rattle.rules.specs.Proper.{Proper}
use Rattle.rules.specs.Tightening.{Tightened, TIGHT, CONFLICT, Tightens}
use Rattle.problem.specs.Lent.{word_count, widths_of, table_of, rule_count, rule_at, rules_of}
use Rattle.tighten.specs.Memory.{table_in, chosen, Outside}
use Rattle.tighten.specs.Stepping.{Stepped}

-- in memory l stands a proper table of the words ws
pub record Tabled (ws l : List ℕ) : Type 0 where
  pub room : 64 ≤ length l
  pub table : Proper (widths_of ws) (table_in (word_count ws) l)

-- rule j was applied, from memory l to m
pub record Applied (ws bs : List ℕ) (j : ℕ) (l m : List ℕ) (r : Option Bool) : Type 0 where
  pub step : Stepped (λ s. TightAt (widths_of ws) s (rule_at bs j)) (word_count ws) (table_in (word_count ws) l) (table_in (word_count ws) m) r
  pub outside : Outside (word_count ws) l m

-- the c rules listed in memory are rules of the problem
pub record Listed (bs l : List ℕ) (c : ℕ) : Type 0 where
  pub room : 64 + c ≤ length l
  pub each : (j : ℕ) → j < c → at l (64 + j) < rule_count bs

-- they were applied, each once, from memory l to m
pub record Swept (ws bs : List ℕ) (c : ℕ) (l m : List ℕ) (r : Option Bool) : Type 0 where
  pub step : Stepped (Tight (widths_of ws) (chosen (rules_of bs) l c)) (word_count ws) (table_in (word_count ws) l) (table_in (word_count ws) m) r
  pub outside : Outside (word_count ws) l m

-- what tightening comes to: the table that is left, or CONFLICT
abbrev pub left : Bool → Table → Tightened
left true u = TIGHT u
left false u = CONFLICT

-- they were applied until none changed a bound
pub record Settled (ws bs : List ℕ) (c : ℕ) (l m : List ℕ) (r : Bool) : Type 0 where
  pub answer : Tightens (Tight (widths_of ws) (chosen (rules_of bs) l c)) (table_in (word_count ws) l) (left r (table_in (word_count ws) m))
  pub outside : Outside (word_count ws) l m

-- the table of words ws was put into memory l and tightened for all rules bs, and m is left
pub record Left (ws bs l m : List ℕ) (r : Bool) : Type 0 where
  pub answer : Tightens (Tight (widths_of ws) (rules_of bs)) (table_of ws) (left r (table_in (word_count ws) m))
  pub size : length m ≡ length l
