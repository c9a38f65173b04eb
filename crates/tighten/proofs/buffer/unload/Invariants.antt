use mathlib.Core.Path.{◌≡◌}
use Rattle.tighten.specs.Memory.{put_bounds}
use Rattle.tighten.proofs.buffer.unload.Given as goal

abbrev pub invariant-loop-i : goal.invariant-loop-i
invariant-loop-i l = l.words ≡ put_bounds l.i l.work l.initial.words
