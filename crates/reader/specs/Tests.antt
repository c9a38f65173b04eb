-- Mirrors code: what the tests of one block tell.
use Rattle.std.specs.Prelude.{List, ℕ, ◌+◌, ◌*◌, ◌<◌, Option, Some, None}
use Rattle.blocks.specs.Edition.{edition1}
use Rattle.blocks.specs.Block.{Clear, WordsBlock, RulesBlock, EndBlock}
use Rattle.reader.specs.declared.Body.{Body}

-- in each of c records of so many bytes, those from `used` to the eighth are 0
pub record Gaps (size used c : ℕ) (b : List ℕ) : Type 0 where
  pub clear : (j : ℕ) → j < c → Clear b (8 + size * j + used) (8 + size * j + 8)

-- no words block, no rules block and no end block with number i
pub record NoBlock (i : ℕ) (b : List ℕ) : Type 0 where
  pub words : (c : ℕ) → ¬ WordsBlock edition1 i c b
  pub rules : (c : ℕ) → ¬ RulesBlock edition1 i c b
  pub ends : (limit : ℕ) → ¬ EndBlock edition1 i limit b

-- what a block is as block i
pub data Is (i : ℕ) (b : List ℕ) : Option Body → Type 0 where
  words_block : {c : ℕ} → WordsBlock edition1 i c b → Is i b (Some (Body.Words c))
  rules_block : {c : ℕ} → RulesBlock edition1 i c b → Is i b (Some (Body.Rules c))
  end_block : {limit : ℕ} → EndBlock edition1 i limit b → Is i b (Some (Body.End limit))
  bad : NoBlock i b → Is i b None
