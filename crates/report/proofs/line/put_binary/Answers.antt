use native.Mathlib.Omega.{arith}
use Prim.Native.Nat.{◌+◌, ◌-◌}
use lib.ListN.{drop, length-take, length-drop}
use Rattle.report.proofs.Binary.{binary_put}
use Rattle.report.proofs.line.put_binary.Goals as goal

pub returns : goal.returns
returns c =
    let n = length-take (c.args.at + c.args.width - c.args.at) (drop c.args.at c.args.out.now) in
    let d = length-drop c.args.at c.args.out.now in
    binary_put c.args.out.now c.loop-i.digit-items c.args.at c.args.width c.args.value c.requires.1 (omega arith)
    (λ i l. c.loop-i.invariant i (omega arith))
