-- To be believed: the editions that the laws of block files are about; edition 1 is one.
use Rattle.std.specs.Prelude.{◌≡◌, ℕ, ◌+◌, ◌*◌, ◌<◌, ◌≤◌, List, length}
use Rattle.lists.specs.Lists.{at}
use Rattle.rules.specs.ProperProblem.{most_words, most_rules}
use Rattle.blocks.specs.Edition.{Form, Edition}
use Rattle.blocks.specs.Written.{word_blocks, rule_blocks}

-- a record has at least eight bytes, a full block has one or more records, and they fit
pub record FormFits (F : Form) : Type 0 where
  pub some : 0 < F.most
  pub wide : 8 ≤ F.size
  pub room : F.size * F.most ≤ 504
  pub sized : (l : List ℕ) (j : ℕ) → length (F.bytes l j) ≡ F.size
  pub clear : (l : List ℕ) (j x : ℕ) → F.used ≤ x → x < 8 → at (F.bytes l j) x ≡ 0

-- an edition whose records fit their blocks, and whose files may have as many blocks as the totals ask for
pub record Fair (E : Edition) : Type 0 where
  pub words : FormFits E.words
  pub rules : FormFits E.rules
  pub enough : word_blocks E most_words + rule_blocks E most_rules + 1 ≤ E.blocks
  pub few : E.blocks < 65536
  pub byte : E.number < 256
