-- The records of edition 1 as items of eight bytes.
use Rattle.std.proofs.Common.{◌≡◌, ℕ, ◌+◌, ◌*◌, ◌/◌, ◌%◌, ◌<◌, List, [], ◌∷◌}
use Rattle.std.proofs.Common.{◌++◌, length, drop, sym, ap, ◌∙◌, append_assoc, add-zero, arith, drop_of_length-le}
use Rattle.lists.specs.Lists.{at, zeros, flat}
use Rattle.rules.specs.Tight.{Rule}
use Rattle.problem.specs.Lent.{width_at, lo_at, hi_at}
use Rattle.blocks.specs.Bytes.{le}
use Rattle.blocks.specs.Records.{word_bytes, rule_bytes, word_record}
use Rattle.blocks.proofs.Block.{eight}

-- a number below 256 and seven zeros
pub small_item : (w : ℕ) → w < 256 → le 8 w ≡ w ∷ zeros 7
unfolding le zeros
small_item w h =
    let low : w % 256 ≡ w = omega arith in
    let high : w / 256 ≡ 0 = omega arith in
    rw (low, high)

-- a word is three items
pub word_items : (ws : List ℕ) (j : ℕ) → width_at ws j < 256 → word_record ws j ≡ flat 3 (λ x. le 8 (at ws (3 * j + x)))
unfolding word_record word_bytes flat
word_items ws j h =
    let lo = le 8 (lo_at ws j) in
    let hi = le 8 (hi_at ws j) in
    ap (λ t. t ++ (lo ++ hi)) (sym (small_item (width_at ws j) h))
    ∙ sym (append_assoc (le 8 (width_at ws j)) lo hi)
    ∙ ap (λ y. (le 8 (at ws y) ++ lo) ++ hi) (sym (add-zero (3 * j)))

-- a rule is one item
pub rule_item : (l : List ℕ) (ρ : Rule) → length l ≡ 8 → at l 0 ≡ ρ.kind → at l 1 ≡ ρ.r → at l 2 ≡ ρ.a → at l 3 ≡ ρ.b → at l 4 ≡ ρ.s → at l 5 ≡ ρ.k
    → at l 6 ≡ 0 → at l 7 ≡ 0 → l ≡ rule_bytes ρ
unfolding rule_bytes zeros
rule_item l ρ n e0 e1 e2 e3 e4 e5 e6 e7 =
    let z : drop 8 l ≡ [] = drop_of_length-le l {i = 8} (omega arith) in
    eight l (omega arith) ∙ rw (e0, e1, e2, e3, e4, e5, e6, e7, z)
