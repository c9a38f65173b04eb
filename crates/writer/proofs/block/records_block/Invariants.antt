use Rattle.std.proofs.Common.{◌≡◌, ◌+◌, length}
use Rattle.lists.specs.Lists.{put, flat}
use Rattle.writer.proofs.block.records_block.Given as goal

abbrev pub invariant-loop-j : goal.invariant-loop-j
invariant-loop-j g l =
    (length l.b ≡ length l.initial.b) × (l.b ≡ put l.initial.b 8 (flat l.j (λ j. g.R.Records.bytes l.records (l.first + j))))
