use mathlib.Core.Path.{refl, ◌∙◌}
use Prim.Native.Nat.{◌+◌, ◌*◌, ◌-◌}
use native.Mathlib.Omega.{arith}
use borrow.Rule.Slice.PartMut.{same_len_mid}
use Rattle.writer.proofs.Wrote.{blocks_start, block_turn, blocks_end, blocks_up}
use Rattle.writer.proofs.write_blocks.Goals as goal

pub loop-q-init : goal.loop-q-init
loop-q-init g c =
    let l = g.met.R.Records in
    (refl, blocks_start _ _ l.fits c.args.before _ _ (l.sized c.args.records.now) c.args.file.now (512 * c.args.before))

pub overflow_add-at : goal.overflow_add-at
overflow_add-at g c =
    omega (arith, c.requires, blocks_up _ _ g.met.R.Records.fits.some c.shape-most.ensures.2 c.count-n.ensures c.div_ceil-q-end.ensures)

pub overflow_mul-at : goal.overflow_mul-at
overflow_mul-at g c =
    omega (arith, c.requires, blocks_up _ _ g.met.R.Records.fits.some c.shape-most.ensures.2 c.count-n.ensures c.div_ceil-q-end.ensures)

pub overflow_add-at-in-loop-q : goal.overflow_add-at-in-loop-q
overflow_add-at-in-loop-q g c =
    omega (arith, c.requires, blocks_up _ _ g.met.R.Records.fits.some c.shape-most.ensures.2 c.count-n.ensures c.div_ceil-q-end.ensures)

pub slice_bounds-records_block-end : goal.slice_bounds-records_block-end
slice_bounds-records_block-end g c =
    omega (arith, c.requires, blocks_up _ _ g.met.R.Records.fits.some c.shape-most.ensures.2 c.count-n.ensures c.div_ceil-q-end.ensures)

pub loop-q-preserved : goal.loop-q-preserved
loop-q-preserved g c =
    let l = g.met.R.Records in
    let a = 512 * (c.args.before + c.loop-q.q) in
    let up = blocks_up _ _ l.fits.some c.shape-most.ensures.2 c.count-n.ensures c.div_ceil-q-end.ensures in (
      same_len_mid a (a + 512 - a) c.loop-q.file c.records_block.new.b c.records_block.auto.b ∙ c.loop-q.invariant.0,
      block_turn _ _ l.fits c.args.before _ _ (l.sized c.args.records.now) c.args.file.now (512 * c.args.before) c.shape-most.result.most c.count-n.result
          c.shape-most.ensures.2 c.count-n.ensures c.loop-q.file c.records_block.new.b c.loop-q.q a c.min.result (omega arith)
          (omega (arith, c.requires)) c.min.ensures c.loop-q.invariant.1 c.records_block.ensures,
    )

pub returns : goal.returns
returns g c =
    let l = g.met.R.Records in
    let up = blocks_up _ _ l.fits.some c.shape-most.ensures.2 c.count-n.ensures c.div_ceil-q-end.ensures in
    blocks_end _ _ l.fits c.args.before _ _ (l.sized c.args.records.now) c.args.file.now (512 * c.args.before) c.loop-q.file c.loop-q.q _ (omega arith)
    c.loop-q.invariant.1
