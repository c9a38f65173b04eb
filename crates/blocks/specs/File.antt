-- To be believed: the order of blocks: a proper file, how files begin, and the first block at fault.
use Rattle.std.specs.Prelude.{◌≡◌, ℕ, suc, ◌+◌, ◌*◌, ◌/◌, ◌%◌, ◌<◌, ◌≤◌, List, length}
use Rattle.rules.specs.ProperProblem.{most_words, most_rules}
use Rattle.checker.specs.declared.refusal.Refusal.{Refusal}
use Rattle.checker.specs.declared.refusal.Refusal.TheVariants.{Check, Layout}
use Rattle.lists.specs.Lists.{part, total, Under}
use Rattle.blocks.specs.Edition.{Form, Edition}
use Rattle.blocks.specs.Block.{sixteen, Sound, RecordBlock, EndBlock}

-- block i of a file
abbrev pub block_at : List ℕ → ℕ → List ℕ
block_at f i = part f (512 * i) 512

-- the record count that block i gives
abbrev pub count_at : List ℕ → ℕ → ℕ
count_at f i = sixteen (block_at f i) 2

module _ (E : Edition) where
  -- q blocks of one kind, from block `first` on, hold n records; each but the last is full
  pub record Blocks (kind : ℕ) (F : Form) (f : List ℕ) (first q n : ℕ) : Type 0 where
    pub each : (i : ℕ) → i < q → RecordBlock E kind F (first + i) (count_at f (first + i)) (block_at f (first + i))
    pub full : (i : ℕ) → suc i < q → count_at f (first + i) ≡ F.most
    pub count : total q (λ i. count_at f (first + i)) ≡ n

  -- A proper file with n words, m rules and a limit: p words blocks come first, then q rules blocks, then one end block, which is last
  pub record ProperFile (f : List ℕ) (n m limit : ℕ) : Type 0 where
    pub p : ℕ
    pub q : ℕ
    pub bytes : Under 256 f
    pub long : length f ≡ 512 * (p + q + 1)
    pub blocks : p + q + 1 ≤ E.blocks
    pub words : Blocks 1 E.words f 0 p n
    pub rules : Blocks 2 E.rules f p q m
    pub few : n ≤ most_words
    pub many : m ≤ most_rules
    pub end : EndBlock E (p + q) limit (block_at f (p + q))

  -- the first i blocks of f are the first blocks of a proper file
  pub record Begins (f : List ℕ) (i : ℕ) : Type 0 where
    pub file : List ℕ
    pub n : ℕ
    pub m : ℕ
    pub limit : ℕ
    pub proper : ProperFile file n m limit
    pub within : 512 * i ≤ length file
    pub same : part f 0 (512 * i) ≡ part file 0 (512 * i)

  -- 1 to so many whole blocks
  pub record Whole (f : List ℕ) : Type 0 where
    pub whole : length f % 512 ≡ 0
    pub some : 1 ≤ length f / 512
    pub most : length f / 512 ≤ E.blocks

  -- The refusal of a file. Block by block: 2 where its sum is wrong, else 3 where it is the first that, with those before it, cannot begin a proper file;
  -- and where there is no such block, 3 at the last block if it is not an end block
  pub data Fault (f : List ℕ) : Refusal → Type 0 where
    check : {i : ℕ} → i < length f / 512 → Begins f i → ¬ Sound (block_at f i) → Fault f (Check i)
    layout : {i : ℕ} → i < length f / 512 → Begins f i → Sound (block_at f i) → ¬ Begins f (suc i) → Fault f (Layout i)
    last : {i : ℕ} → suc i ≡ length f / 512 → Begins f (suc i) → ((limit : ℕ) → ¬ EndBlock E i limit (block_at f i)) → Fault f (Layout i)
