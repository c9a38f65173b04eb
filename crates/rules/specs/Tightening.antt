-- To be believed: what tightening gives: the widest tight table inside a table, or CONFLICT where there is none.
-- `Tight` may be any property of tables, so that these words do not change with what a kind is asked for.
use Rattle.words.specs.Table.{Table, Inside}

-- u is the widest tight table inside t
pub record Widest (Tight : Table → Type 0) (t u : Table) : Type 0 where
  pub tight : Tight u
  pub inside : Inside u t
  pub widest : (s : Table) → Tight s → Inside s t → Inside s u

-- no tight table lies inside t
pub record Conflict (Tight : Table → Type 0) (t : Table) : Type 0 where
  pub nothing : (s : Table) → Tight s → Inside s t → ⊥

pub data Tightened : Type 0 where
  TIGHT : Table → Tightened
  CONFLICT : Tightened

-- what a tightening of t comes to
abbrev pub Tightens : (Table → Type 0) → Table → Tightened → Type 0
Tightens Tight t (TIGHT u) = Widest Tight t u
Tightens Tight t CONFLICT = Conflict Tight t
