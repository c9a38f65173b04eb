-- To be believed: what an edition of block files fixes: its number, the form of its records, how many blocks a file may have, and what refuses a problem.
-- Everything else in this crate holds of any edition whose records fit their blocks.
use Rattle.std.specs.Prelude.{ℕ, List}
use Rattle.checker.specs.Refusal.{Checked, refusal_with}
use Rattle.blocks.specs.Records.{word_record, rule_record}

-- the records of one kind of block
pub record Form : Type 0 where
  -- bytes a record
  pub size : ℕ
  -- of the first eight bytes of a record, how many are in use; the others are 0
  pub used : ℕ
  -- records to a full block
  pub most : ℕ
  -- the bytes of a record of lent numbers
  pub bytes : List ℕ → ℕ → List ℕ

pub record Edition : Type 0 where
  -- byte 1 of every block
  pub number : ℕ
  pub words : Form
  pub rules : Form
  -- the most blocks of a file
  pub blocks : ℕ
  -- refusals 4 to 9 of a problem, with the kinds of rule that are allowed
  pub judge : ℕ → List ℕ → List ℕ → Checked

-- edition 1: 24 bytes a word and 21 to a block, 8 bytes a rule and 63 to a block, 1 to 7 blocks, and the kinds 1 to 14 of a check
abbrev pub edition1 : Edition
edition1 = record {
  number = 1;
  words = record { size = 24; used = 1; most = 21; bytes = word_record };
  rules = record { size = 8; used = 6; most = 63; bytes = rule_record };
  blocks = 7;
  judge = refusal_with;
}
