use mathlib.Core.Path.{refl, ap}
use mathlib.Core.List.{List}
use Prim.Native.Nat.{ℕ, ◌+◌, ◌*◌, ◌≤◌}
use native.Mathlib.Omega.{arith}
use borrow.Author.Rules.{rules}
use lib.ListN.{length}
use Rattle.problem.specs.Lent.{word_count, rule_count}
use Rattle.blocks.specs.Edition.{edition1}
use Rattle.blocks.specs.Written.{encode, blocks_for, word_blocks, rule_blocks}
use Rattle.blocks.proofs.ReadBack.{length_encode}
use Rattle.writer.proofs.Answers.{words_up, rules_up}
use Rattle.writer.proofs.Wrote.{file_put}
use Rattle.writer.proofs.write_all.Goals as goal

-- there is room for all blocks
long : (limit : ℕ) (words rules : List ℕ) {n : ℕ} → length (encode edition1 limit words rules) ≤ n
    → 512 * (word_blocks edition1 (word_count words) + rule_blocks edition1 (rule_count rules) + 1) ≤ n
long limit words rules h = omega (arith, length_encode limit words rules)

pub write_blocks-requires : goal.write_blocks-requires
write_blocks-requires c = (omega arith, omega (arith, long c.args.limit c.args.words.now c.args.rules.now c.requires.1))

pub write_blocks-requires-2 : goal.write_blocks-requires-2
unfolding blocks_for
write_blocks-requires-2 c = (
  omega (arith, words_up _ c.div_ceil-before.ensures, c.requires.0.sized.words),
  omega (arith, words_up _ c.div_ceil-before.ensures, long c.args.limit c.args.words.now c.args.rules.now c.requires.1),
)

pub slice_bounds-end_block-end : goal.slice_bounds-end_block-end
slice_bounds-end_block-end c =
    omega (arith, words_up _ c.div_ceil-before.ensures, rules_up _ c.div_ceil.ensures, long c.args.limit c.args.words.now c.args.rules.now c.requires.1)

pub returns : goal.returns
returns c =
    let b = c.div_ceil-before.result in
    let k = b + c.div_ceil.result in
    let p = words_up _ c.div_ceil-before.ensures in
    let q = rules_up _ c.div_ceil.ensures in
    let n = length_encode c.args.limit c.args.words.now c.args.rules.now in (
      omega arith,
      file_put c.args.limit c.args.words.now c.args.rules.now c.args.file.now c.write_blocks.new.file c.write_blocks-2.new.file c.end_block.new.b b k (512 * k)
          (512 * k + 512) (long c.args.limit c.args.words.now c.args.rules.now c.requires.1) p (ap (λ x. b + x) q) refl refl
          c.write_blocks.ensures c.write_blocks-2.ensures c.end_block.ensures,
    )
