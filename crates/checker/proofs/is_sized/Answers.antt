use mathlib.Core.Path.{refl}
use Rattle.checker.specs.Tests.{sized}
use Rattle.checker.proofs.is_sized.Goals as goal

pub returns : goal.returns
unfolding sized
returns c = refl
