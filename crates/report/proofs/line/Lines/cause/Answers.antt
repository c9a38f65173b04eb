use mathlib.Core.Path.{refl}
use native.Mathlib.Omega.{arith}
use Rattle.decimal.proofs.Puts.{room_for, spaced_same}
use Rattle.report.proofs.Puts.{entries_room, entries_end}
use Rattle.report.proofs.Reports.{cause_put}
use Rattle.report.proofs.line.Lines.cause.Goals as goal

pub put_all-self-requires : goal.put_all-self-requires
put_all-self-requires c = room_for _ _ _ _ (omega (arith, c.requires, c.put_bytes-self.ensures.ends, c.put_bytes-self.auto.out))

pub put_all-self-requires-2 : goal.put_all-self-requires-2
put_all-self-requires-2 c =
    entries_room _ _ c.args.list.now (λ i. (c.type_inv.list i).fits)
    (omega (arith, c.requires, c.put_bytes-self.ensures.ends, c.put_bytes-self.auto.out, c.put_all-self.ensures.end, c.put_all-self.auto.out))

pub put_bytes-self-requires-2 : goal.put_bytes-self-requires-2
put_bytes-self-requires-2 c =
    let e = entries_end c.args.list.now (λ i. (c.type_inv.list i).fits) (spaced_same _ c.put_all-self-2.ensures.text) in
    let s = c.put_all-self-2.auto.out in
    omega (arith, c.requires, c.put_bytes-self.ensures.ends, c.put_bytes-self.auto.out, c.put_all-self.ensures.end, c.put_all-self.auto.out, s)

pub returns : goal.returns
returns c =
    record {
      there = cause_put _ _ c.put_bytes-self.ensures (spaced_same _ c.put_all-self.ensures.text) (spaced_same _ c.put_all-self-2.ensures.text)
          c.put_bytes-self-2.ensures;
      same = refl;
    }
