use mathlib.Core.Path.{refl}
use Rattle.words.specs.Word.{open_in}
use Rattle.words.proofs.open_bits.Goals as goal

pub returns : goal.returns
unfolding open_in
returns c = refl
