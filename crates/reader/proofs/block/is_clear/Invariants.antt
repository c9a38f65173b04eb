use Prim.Native.Nat.{◌≤◌}
use Rattle.blocks.specs.Block.{Clear}
use Rattle.reader.proofs.block.is_clear.Given as goal

abbrev pub invariant-loop-x : goal.invariant-loop-x
invariant-loop-x l = (l.from ≤ l.x) × Clear l.b l.from l.x
