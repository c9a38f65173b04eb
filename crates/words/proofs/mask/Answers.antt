use native.Mathlib.Omega.{arith}
use Rattle.words.proofs.Single.{mask_shr}
use Rattle.words.proofs.mask.Goals as goal

pub returns : goal.returns
returns c = mask_shr c.args.w (omega arith)
