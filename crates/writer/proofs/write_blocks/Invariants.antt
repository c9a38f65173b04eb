use Rattle.std.proofs.Common.{◌≡◌, ◌*◌, length}
use Rattle.lists.specs.Lists.{put}
use Rattle.blocks.specs.Edition.{edition1}
use Rattle.blocks.specs.Written.{blocks_of}
use Rattle.writer.proofs.write_blocks.Given as goal

abbrev pub invariant-loop-q : goal.invariant-loop-q
invariant-loop-q g l =
    let r = g.R.Records in
    (length l.file ≡ length l.initial.file)
    × (l.file ≡ put l.initial.file (512 * l.before) (blocks_of edition1 r.kind r.form.most l.before (r.many l.records) (r.bytes l.records) l.q))
