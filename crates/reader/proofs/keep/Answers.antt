use native.Mathlib.Omega.{arith}
use Rattle.checker.proofs.Handed.{handed_on}
use Rattle.blocks.proofs.WriteBack.{proper_room}
use Rattle.reader.proofs.Keeps.{kept_refused, kept_ok}
use Rattle.reader.proofs.keep.Goals as goal

pub judge-requires : goal.judge-requires
judge-requires c =
    (c.requires.1.few, c.requires.1.many, proper_room c.requires.1)

pub returns-in_err-judge : goal.returns-in_err-judge
returns-in_err-judge c =
    rw (handed_on c.from_residual.result c.from_residual.ensures.1) (kept_refused c.requires.0 c.requires.1 c.judge.ensures c.in_err-judge.was)

pub store_words-requires : goal.store_words-requires
store_words-requires c =
    omega (arith, c.requires.0.words, c.requires.1.few, proper_room c.requires.1)

pub store_rules-requires : goal.store_rules-requires
store_rules-requires c =
    omega (arith, c.requires.0.rules, c.requires.1.few, c.requires.1.many, proper_room c.requires.1)

pub returns : goal.returns
returns c =
    kept_ok c.requires.0 c.requires.1 c.judge.ensures c.in_ok-judge.was c.store_words.ensures c.store_rules.ensures
