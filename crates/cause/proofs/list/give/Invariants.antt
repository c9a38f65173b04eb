use mathlib.Core.Path.{◌≡◌}
use Prim.Native.Nat.{ℕ, ◌+◌, ◌<◌}
use Rattle.lists.specs.Lists.{at}
use Rattle.cause.proofs.list.give.Given as goal

abbrev pub invariant-loop-j : goal.invariant-loop-j
invariant-loop-j l = (q : ℕ) → q < l.j → at l.entry-items q ≡ at l.work (64 + q)
