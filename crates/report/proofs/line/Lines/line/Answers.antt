use mathlib.Core.Path.{refl}
use native.Mathlib.Omega.{arith}
use Rattle.decimal.proofs.Puts.{room_for, spaced_same}
use Rattle.report.proofs.Puts.{line_put}
use Rattle.report.proofs.line.Lines.line.Goals as goal

pub put_all-self-requires : goal.put_all-self-requires
put_all-self-requires c = room_for _ _ _ _ (omega (arith, c.requires, c.put_bytes-self.ensures.ends, c.put_bytes-self.auto.out))

pub returns : goal.returns
returns c =
    let text = line_put _ _ c.put_bytes-self.ensures (spaced_same _ c.put_all-self.ensures.text) c.put_bytes-self-2.ensures in
    (record { there = text; same = refl }, omega (arith, c.put_bytes-self.ensures.ends, c.put_all-self.ensures.end, c.put_bytes-self-2.ensures.ends))
