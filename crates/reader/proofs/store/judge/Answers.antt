use Prim.Native.Nat.{◌*◌}
use Rattle.blocks.specs.Decode.{words_in, rules_in}
use Rattle.blocks.proofs.WriteBack.{length_words, length_rules}
use Rattle.reader.proofs.Keeps.{judged}
use Rattle.reader.proofs.Stores.{taken}
use Rattle.reader.proofs.store.judge.Goals as goal

pub returns : goal.returns
returns c =
    let n = c.args.x.words in
    let m = c.args.x.rules in
    judged c.args.x.limit _ _ _ _
    (taken _ c.store_words.new.out (words_in c.args.file.now n) (3 * n) (length_words _ _) c.store_words.ensures)
    (taken _ c.store_rules.new.out (rules_in c.args.file.now n m) (6 * m) (length_rules _ _ _) c.store_rules.ensures)
    c.check.ensures
