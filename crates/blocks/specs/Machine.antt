-- Mirrors code: the reader's machine over blocks. Its state is how many words and rules there were so far.
use Rattle.std.specs.Prelude.{◌≡◌, ℕ, suc, ◌+◌, ◌%◌, ◌≤◌, List}
use Rattle.blocks.specs.Edition.{Edition}
use Rattle.blocks.specs.Block.{WordsBlock, RulesBlock, EndBlock}
use Rattle.rules.specs.ProperProblem.{most_words, most_rules}
use Rattle.blocks.specs.File.{block_at}

module _ (E : Edition) (f : List ℕ) where
  -- after i blocks, none of them an end block: a words block may come where no rules were yet, and after full blocks of its kind only
  pub data Run : ℕ → ℕ → ℕ → Type 0 where
    start : Run 0 0 0
    more_words : {i n n' c : ℕ} → Run i n 0 → n % E.words.most ≡ 0 → n' ≡ n + c → n' ≤ most_words → WordsBlock E i c (block_at f i) → Run (suc i) n' 0
    more_rules : {i n m m' c : ℕ} → Run i n m → m % E.rules.most ≡ 0 → m' ≡ m + c → m' ≤ most_rules → RulesBlock E i c (block_at f i) → Run (suc i) n m'

  -- after i blocks, the last of them the end block
  pub data Ended : ℕ → ℕ → ℕ → ℕ → Type 0 where
    end : {i n m limit : ℕ} → Run i n m → EndBlock E i limit (block_at f i) → Ended (suc i) n m limit

  -- the machine accepts the first i blocks
  pub data Accepted (i : ℕ) : Type 0 where
    going : {n m : ℕ} → Run i n m → Accepted i
    ended : {n m limit : ℕ} → Ended i n m limit → Accepted i
