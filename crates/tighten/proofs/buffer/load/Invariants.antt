use Rattle.tighten.specs.Memory.{Loaded}
use Rattle.tighten.proofs.buffer.load.Given as goal

abbrev pub invariant-loop-i : goal.invariant-loop-i
invariant-loop-i l = Loaded l.i l.words l.initial.work l.work
