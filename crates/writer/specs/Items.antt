-- Mirrors code: what the writer puts down, by its places; and the room that it asks for.
use Rattle.std.specs.Prelude.{Bool, ◌&&◌, List, ℕ, ◌+◌, ◌*◌, ◌/◌, ◌<◌, leb}
use Rattle.problem.specs.Lent.{stride, fields, word_count, width_at, rule_count}
use Rattle.blocks.specs.Records.{word_record, rule_record}
use Rattle.blocks.specs.Edition.{edition1}
use Rattle.blocks.specs.Written.{blocks_of, word_blocks, rule_blocks}

-- widths of one byte
pub record Narrow (ws : List ℕ) : Type 0 where
  pub width : (i : ℕ) → width_at ws i < 256

-- the first q words blocks, and the first q rules blocks after so many blocks
abbrev pub words_up_to : List ℕ → ℕ → List ℕ
words_up_to ws q = blocks_of edition1 1 21 0 (word_count ws) (word_record ws) q

abbrev pub rules_up_to : List ℕ → ℕ → ℕ → List ℕ
rules_up_to bs before q = blocks_of edition1 2 63 before (rule_count bs) (rule_record bs) q

-- for so many numbers and bytes of words and rules
abbrev pub room_for : ℕ → ℕ → ℕ → Bool
room_for w r f = leb w 96 && (leb r 1512 && leb (512 * (word_blocks edition1 (w / stride) + rule_blocks edition1 (r / fields) + 1)) f)
