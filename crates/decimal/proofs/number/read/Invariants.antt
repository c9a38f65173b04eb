use mathlib.Core.Path.{◌≡◌}
use Prim.Native.Nat.{◌+◌}
use Rattle.decimal.proofs.Readings.{Begun}
use Rattle.decimal.proofs.number.read.Given as goal

abbrev pub invariant-loop-x : goal.invariant-loop-x
invariant-loop-x l = Begun l.s l.at l.v l.e × (l.e ≡ l.at + 1 + l.x-index)
