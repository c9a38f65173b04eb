use native.Mathlib.Omega.{arith}
use lib.ListN.{length-take}
use borrow.Author.Rules.{rules}
use Prim.Native.Nat.{◌*◌}
use Rattle.blocks.specs.Written.{blocks_for}
use Rattle.reader.proofs.Stores.{words_stored}
use Rattle.reader.proofs.store.store_words.Goals as goal

pub load-requires : goal.load-requires
unfolding blocks_for
load-requires c = search rules

pub returns : goal.returns
returns c =
    let n = length-take (3 * c.args.n) c.args.out.now in
    words_stored c.args.file.now c.args.n c.args.out.now c.loop-x.number-items (omega arith) (λ k l. c.loop-x.invariant k (omega arith))
