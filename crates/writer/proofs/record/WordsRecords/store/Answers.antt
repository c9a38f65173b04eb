use native.Mathlib.Omega.{arith}
use Rattle.writer.proofs.Puts.{word_put}
use Rattle.writer.proofs.record.WordsRecords.store.Goals as goal

pub returns : goal.returns
returns c =
    word_put c.args.b.now c.put_bytes.new.b c.put_bytes-2.new.b c.put_bytes-3.new.b c.to_le_bytes.result c.to_le_bytes-2.result c.to_le_bytes-3.result
    c.args.self.now.list.now c.args.at c.args.j (omega (arith, c.requires.room)) (c.args.self.now.narrow.width c.args.j)
    c.to_le_bytes.ensures c.to_le_bytes-2.ensures c.to_le_bytes-3.ensures c.put_bytes.ensures c.put_bytes-2.ensures c.put_bytes-3.ensures
