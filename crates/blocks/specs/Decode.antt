-- To be believed: where the numbers of a problem stand in a file of edition 1. A block has room for 63 items of eight bytes: three make a word, one a rule.
use Rattle.std.specs.Prelude.{ℕ, ◌+◌, ◌*◌, ◌/◌, ◌%◌, List}
use Rattle.lists.specs.Lists.{at, series, part}
use Rattle.problem.specs.Lent.{stride, fields}
use Rattle.blocks.specs.Bytes.{from_le}
use Rattle.blocks.specs.Edition.{edition1}
use Rattle.blocks.specs.Written.{word_blocks}

-- the first byte of item x of blocks that follow each other
abbrev pub slot : ℕ → ℕ
slot x = 512 * (x / 63) + 8 + 8 * (x % 63)

-- the numbers of n words
unfoldable pub words_in : List ℕ → ℕ → List ℕ
words_in f n = series (stride * n) (λ x. from_le (part f (slot x) 8))

-- the bytes of m rules, which stand after the words blocks of n words
unfoldable pub rules_in : List ℕ → ℕ → ℕ → List ℕ
rules_in f n m = series (fields * m) (λ x. at f (512 * word_blocks edition1 n + slot (x / fields) + x % fields))
