-- The sum of a block, folded: one number more, with wrapping, and all of them.
use Rattle.std.proofs.Common.{◌≡◌, ℕ, zero, suc, ◌+◌, ◌%◌, List, fold, refl, ap, ◌∙◌, arith}
use native.Mathlib.Nat.{add-zero}
use native.Mathlib.Numerals.{add-one}
use Rattle.std.specs.List.{range_with_len}
use Rattle.lists.specs.Lists.{total}
use Rattle.blocks.specs.Block.{sixteen, sum}
use Rattle.lists.proofs.Pieces.{total_none, total_more}

-- one number added, with wrapping
abbrev pub added : List ℕ → ℕ → ℕ → ℕ
added b s j = (s + sixteen b j) % 65536

wraps : (t y r : ℕ) → r ≡ (t % 65536 + y) % 65536 → r ≡ (t + y) % 65536
wraps t y r h = omega arith

folds : (b : List ℕ) (n a s : ℕ) → s ≡ total a (sixteen b) % 65536 → fold (added b) s (range_with_len a n) ≡ total (a + n) (sixteen b) % 65536
folds b zero a s e = rw (add-zero a) e
folds b (suc n) a s e =
    let more : added b s a ≡ total (a + 1) (sixteen b) % 65536 =
    rw (e, add-one a, total_more a (sixteen b)) (wraps (total a (sixteen b)) (sixteen b a) _ refl) in
    folds b n (a + 1) (added b s a) more ∙ ap (λ k. total k (sixteen b) % 65536) (omega arith)

pub sum_folds : (b : List ℕ) → fold (added b) 0 (range_with_len 0 256) ≡ sum b % 65536
unfolding sum
sum_folds b = folds b 256 0 0 (rw (total_none (sixteen b)))
