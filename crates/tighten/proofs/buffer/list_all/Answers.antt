use native.Mathlib.Omega.{arith}
use Rattle.tighten.proofs.Buffers.{numbered_put}
use Rattle.tighten.proofs.buffer.list_all.Goals as goal

pub returns : goal.returns
returns c =
    numbered_put c.args.c _ c.args.work.now c.loop-j.number-items (omega arith) c.requires.1 (omega arith)
    (λ j h. c.loop-j.invariant j (omega arith))
