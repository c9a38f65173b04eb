use Rattle.std.proofs.Common.{◌≡◌, take, length}
use Rattle.decimal.specs.Putting.{Spaced}
use Rattle.decimal.proofs.number.put_all.Given as goal

abbrev pub invariant-loop-x : goal.invariant-loop-x
invariant-loop-x g l = Spaced g.T.Into.converts l.initial.out l.at (take l.x-index l.numbers) l.out l.e × (length l.out ≡ length l.initial.out)
