use mathlib.Core.Path.{◌≡◌}
use native.Mathlib.Omega.{arith}
use lib.ListN.{length-take}
use borrow.Author.Rules.{rules}
use Prim.Native.Nat.{◌*◌}
use Rattle.blocks.specs.Written.{blocks_for}
use Rattle.reader.proofs.Stores.{rules_stored}
use Rattle.reader.proofs.store.store_rules.Goals as goal

pub bounds-file-before : goal.bounds-file-before
unfolding blocks_for
bounds-file-before c = search rules

pub returns : goal.returns
unfolding blocks_for
returns c =
    let e : c.div_ceil-before.result ≡ blocks_for 21 c.args.n = omega arith in
    let n = length-take (6 * c.args.m) c.args.out.now in
    rules_stored c.args.file.now c.args.n c.args.m c.args.out.now c.loop-x.byte-items (omega arith) (λ k l. rw e at (c.loop-x.invariant k (omega arith)))
