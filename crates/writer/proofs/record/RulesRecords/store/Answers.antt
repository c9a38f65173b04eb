use native.Mathlib.Omega.{arith}
use Rattle.writer.proofs.Puts.{rule_put}
use Rattle.writer.proofs.record.RulesRecords.store.Goals as goal

pub returns : goal.returns
returns c =
    rule_put c.args.b.now c.put_bytes.new.b c.put_zeros.new.b c.args.self.now.list.now c.args.at c.args.j (omega (arith, c.requires.room))
    (omega (arith, c.requires.there)) c.put_bytes.ensures c.put_zeros.ensures
