-- Mirrors code: what the machine makes of one block, and of all.
use Rattle.std.specs.Prelude.{◌≡◌, List, ℕ, suc, ◌+◌, ◌%◌, ◌≤◌, Option, Some, None, Result, Ok, Err}
use Rattle.checker.specs.declared.refusal.Refusal.{Refusal}
use Rattle.checker.specs.declared.refusal.Refusal.TheVariants.{Size}
use Rattle.blocks.specs.declared.Problem.{Problem}
use Rattle.blocks.specs.Edition.{edition1}
use Rattle.blocks.specs.Block.{WordsBlock, RulesBlock, EndBlock}
use Rattle.rules.specs.ProperProblem.{most_words, most_rules}
use Rattle.blocks.specs.File.{ProperFile, Whole, Fault}
use Rattle.blocks.specs.Machine.{Run, Ended}
use Rattle.reader.specs.declared.State.{State}

-- no way on for the machine after n words and m rules
pub record Stuck (b : List ℕ) (i n m : ℕ) : Type 0 where
  pub words : (c : ℕ) → WordsBlock edition1 i c b → m ≡ 0 → n % 21 ≡ 0 → n + c ≤ most_words → ⊥
  pub rules : (c : ℕ) → RulesBlock edition1 i c b → m % 63 ≡ 0 → m + c ≤ most_rules → ⊥
  pub ends : (limit : ℕ) → ¬ EndBlock edition1 i limit b

-- one step of the machine on block b
pub data BlockStep (b : List ℕ) (i n m : ℕ) : Option State → Type 0 where
  words_step : {n' m' c : ℕ} → WordsBlock edition1 i c b → m ≡ 0 → n % 21 ≡ 0 → n' ≡ n + c → n' ≤ most_words → m' ≡ 0
      → BlockStep b i n m (Some (State.Going n' m'))
  rules_step : {n' m' c : ℕ} → RulesBlock edition1 i c b → m % 63 ≡ 0 → m' ≡ m + c → m' ≤ most_rules → n' ≡ n → BlockStep b i n m (Some (State.Going n' m'))
  end_step : {limit : ℕ} → EndBlock edition1 i limit b → BlockStep b i n m (Some (State.Ended (record { words = n; rules = m; limit = limit })))
  fault_step : Stuck b i n m → BlockStep b i n m None

-- the machine's state after the first i blocks of a file
pub data Stands (f : List ℕ) (i : ℕ) : State → Type 0 where
  going : {n m : ℕ} → Run edition1 f i n m → Stands f i (State.Going n m)
  ended : {x : Problem} → Ended edition1 f i x.words x.rules x.limit → Stands f i (State.Ended x)

-- after block i: the next state, or the file's fault
pub data Turned (f : List ℕ) (i : ℕ) : Result State Refusal → Type 0 where
  on : {s : State} → Stands f (suc i) s → Turned f i (Ok s)
  stop : {r : Refusal} → Fault edition1 f r → Turned f i (Err r)

-- after all: what a proper file holds, or refusal 1, or the file's fault
pub data Scanned (f : List ℕ) : Result Problem Refusal → Type 0 where
  size : ¬ Whole edition1 f → Scanned f (Err Size)
  fault : {r : Refusal} → Whole edition1 f → Fault edition1 f r → Scanned f (Err r)
  whole : {x : Problem} → ProperFile edition1 f x.words x.rules x.limit → Scanned f (Ok x)
