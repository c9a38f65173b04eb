use mathlib.Core.Path.{refl, ◌∙◌}
use Prim.Native.Nat.{◌+◌}
use native.Mathlib.Omega.{arith}
use Rattle.writer.proofs.Filled.{flat_start, record_turn, records_put}
use Rattle.writer.proofs.block.records_block.Goals as goal

pub loop-j-init : goal.loop-j-init
loop-j-init g c = (refl, flat_start c.put_head.new.b 8 _)

pub loop-j-preserved : goal.loop-j-preserved
loop-j-preserved g c =
    let l = g.met.R.Records in (
      c.store.auto.b ∙ c.loop-j.invariant.0,
      record_turn l.fits _ (λ i. l.sized c.args.records.now (c.args.first + i)) c.shape-shape.ensures.1 c.put_head.new.b c.loop-j.b c.store.new.b
          c.loop-j.j c.args.c (omega arith) (omega arith) c.requires.1 c.loop-j.invariant.1 c.store.ensures,
    )

pub returns : goal.returns
returns g c =
    let l = g.met.R.Records in
    records_put l.fits _ (λ i. l.sized c.args.records.now (c.args.first + i)) c.shape-shape.ensures.1 c.args.b.now c.put_head.new.b c.loop-j.b c.finish.new.b _
    c.shape-shape.result.kind c.args.i c.loop-j.j c.args.c c.requires.0 c.shape-shape.ensures.0 (omega arith) c.requires.1 c.put_head.ensures
    c.loop-j.invariant.1 c.finish.ensures
