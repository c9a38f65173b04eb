-- To be believed: what the call `tighten` promises: its answer, and every lent number afterwards.
use Rattle.std.specs.Prelude.{◌≡◌, List, ℕ, length, Result, Ok, Err}
use Rattle.words.specs.Table.{Table}
use Rattle.rules.specs.Tight.{Tight}
use Rattle.rules.specs.Tightening.{Widest, Conflict}
use Rattle.checker.specs.declared.refusal.Refusal.{Refusal}
use Rattle.problem.specs.Lent.{widths_of, table_of, rules_of}
use Rattle.checker.specs.Refusal.{Checked, refusal, with_room}
use Rattle.tighten.specs.declared.Answer.{Answer}
use Rattle.tighten.specs.declared.Answer.TheVariants as answer
use Rattle.tighten.specs.Memory.{Cleared}

-- the numbers of work memory that the call asks for
abbrev pub tighten_work : ℕ
tighten_work = 320

-- refusal 1 for work memory that is too short, then the refusals of the problem
unfoldable pub tighten_refusal : List ℕ → List ℕ → List ℕ → Checked
tighten_refusal ws bs work = with_room tighten_work (length work) 0 0 (refusal ws bs)

-- the words ws' are the words ws with the bounds of table u
pub record WithBounds (ws ws' : List ℕ) (u : Table) : Type 0 where
  pub size : length ws' ≡ length ws
  pub widths : widths_of ws' ≡ widths_of ws
  pub table : table_of ws' ≡ u

-- what comes of words ws, rules bs and work memory that are not refused: the answer, and ws' and work' in words and memory afterwards
pub data TightenEnds (ws bs work : List ℕ) : Answer → List ℕ → List ℕ → Type 0 where
  tight : {u : Table} {ws' work' : List ℕ} → Widest (Tight (widths_of ws) (rules_of bs)) (table_of ws) u → WithBounds ws ws' u → Cleared work work'
      → TightenEnds ws bs work answer.Tight ws' work'
  conflict : {work' : List ℕ} → Conflict (Tight (widths_of ws) (rules_of bs)) (table_of ws) → Cleared work work'
      → TightenEnds ws bs work answer.Conflict ws work'

-- words ws, rules bs and work memory were lent; a refusal or the answer comes back, and ws' and work' stand in words and memory afterwards
pub data Tightening (ws bs work : List ℕ) : Result Answer Refusal → List ℕ → List ℕ → Type 0 where
  refused : {r : Refusal} → tighten_refusal ws bs work ≡ Err r → Tightening ws bs work (Err r) ws work
  answered : {x : Answer} {ws' work' : List ℕ} → tighten_refusal ws bs work ≡ Ok tt → TightenEnds ws bs work x ws' work'
      → Tightening ws bs work (Ok x) ws' work'
