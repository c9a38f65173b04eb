use mathlib.Core.Path.{refl}
use Rattle.tighten.specs.Memory.{put_bounds}
use Rattle.tighten.proofs.Buffers.{put_turn}
use Rattle.tighten.proofs.buffer.unload.Goals as goal

pub loop-i-init : goal.loop-i-init
unfolding put_bounds
loop-i-init c = refl

pub loop-i-preserved : goal.loop-i-preserved
loop-i-preserved c = put_turn c.loop-i.i _ _ _ c.loop-i.invariant
