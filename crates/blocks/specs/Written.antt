-- To be believed: the file of a problem, byte by byte.
use Rattle.std.specs.Prelude.{◌≡◌, ℕ, ◌+◌, ◌-◌, ◌*◌, ◌/◌, ◌%◌, ◌^◌, ◌<◌, min, List, ◌∷◌, ◌++◌, length, slice_set}
use Rattle.problem.specs.Lent.{word_count, width_at, rule_count}
use Rattle.checker.specs.Demands.{Sized}
use Rattle.blocks.specs.Bytes.{le}
use Rattle.lists.specs.Lists.{zeros, flat, Under}
use Rattle.blocks.specs.Edition.{Edition}
use Rattle.blocks.specs.Block.{sum}

-- a block with its check stored: bytes 6 and 7, which were 0, make the sum right
unfoldable pub seal : List ℕ → List ℕ
seal b = slice_set (slice_set b 6 ((65535 - sum b % 65536) % 256)) 7 ((65535 - sum b % 65536) / 256)

-- block q of n records, k to a block, holds so many
abbrev pub held : ℕ → ℕ → ℕ → ℕ
held k n q = min k (n - k * q)

-- n records, k to a block, take so many blocks
unfoldable pub blocks_for : ℕ → ℕ → ℕ
blocks_for k n = (n + (k - 1)) / k

module _ (E : Edition) where
  -- kind, edition, block number, record count, no check yet, and what follows
  unfoldable pub headed : ℕ → ℕ → ℕ → List ℕ → List ℕ
  headed kind i c t = kind ∷ E.number ∷ le 2 i ++ (le 2 c ++ (0 ∷ 0 ∷ t))

  -- a block: its header, the bytes of its records, zeros to the end, and the check
  unfoldable pub block : ℕ → ℕ → ℕ → List ℕ → List ℕ
  block kind i c t = seal (headed kind i c (t ++ zeros (504 - length t)))

  -- the first q blocks of n records of one form, the first block's number being `first`
  unfoldable pub blocks_of : ℕ → ℕ → ℕ → ℕ → (ℕ → List ℕ) → ℕ → List ℕ
  blocks_of kind k first n bytes q = flat q (λ i. block kind (first + i) (held k n i) (flat (held k n i) (λ j. bytes (k * i + j))))

  abbrev pub word_blocks : ℕ → ℕ
  word_blocks n = blocks_for E.words.most n

  abbrev pub rule_blocks : ℕ → ℕ
  rule_blocks m = blocks_for E.rules.most m

  -- n word records, m rule records and the limit
  unfoldable pub file_of : (ℕ → List ℕ) → ℕ → (ℕ → List ℕ) → ℕ → ℕ → List ℕ
  file_of word n rule m limit =
      (blocks_of 1 E.words.most 0 n word (word_blocks n) ++ blocks_of 2 E.rules.most (word_blocks n) m rule (rule_blocks m))
      ++ block 3 (word_blocks n + rule_blocks m) 0 (le 4 limit)

  -- the file of the lent words ws, the lent rules bs and a limit
  unfoldable pub encode : ℕ → List ℕ → List ℕ → List ℕ
  encode limit ws bs = file_of (E.words.bytes ws) (word_count ws) (E.rules.bytes bs) (rule_count bs) limit

-- whole words and rules, not too many, of numbers that fit their fields in a file
pub record Storable (limit : ℕ) (ws bs : List ℕ) : Type 0 where
  pub sized : Sized ws bs
  pub width : (i : ℕ) → width_at ws i < 256
  pub words : Under (2 ^ 64) ws
  pub rules : Under 256 bs
  pub guesses : limit < 2 ^ 32

-- f is the file of a problem
pub record IsFile (E : Edition) (limit : ℕ) (ws bs f : List ℕ) : Type 0 where
  pub storable : Storable limit ws bs
  pub same : f ≡ encode E limit ws bs

-- numbers as a slice of u64 and a slice of u8 hold them
pub record Slices (ws bs : List ℕ) : Type 0 where
  pub words : Under (2 ^ 64) ws
  pub rules : Under 256 bs
