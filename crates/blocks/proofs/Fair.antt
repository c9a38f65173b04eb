-- Editions whose records fit their blocks and whose files may have as many blocks as the totals ask for. All laws are about such editions; edition 1 is one.
use Rattle.std.proofs.Common.{◌≡◌, ℕ, zero, suc, ◌*◌, ◌<◌, ◌≤◌, length, refl, mul-le-mul_right, mul-le-mul_left, arith, length-append}
use Rattle.blocks.specs.Fair.{FormFits, Fair}
use Rattle.lists.specs.Lists.{at, zeros}
use Rattle.rules.specs.Tight.{Rule}
use Rattle.blocks.specs.Records.{word_bytes, rule_bytes, word_record, rule_record}
use Rattle.blocks.specs.Edition.{Form, edition1}
use Rattle.blocks.specs.Written.{blocks_for}
use Rattle.lists.proofs.Pieces.{length_zeros, at_zeros}
use Rattle.blocks.proofs.Numbers.{length_le}

module _ {F : Form} (fits : FormFits F) where
  -- so many records lie in a block
  pub in_block : (c : ℕ) → c ≤ F.most → F.size * c ≤ 504
  in_block c h = omega (arith, mul-le-mul_left F.size h, fits.room)

  pub few_records : F.most ≤ 63
  few_records = omega (arith, mul-le-mul_right F.most fits.wide, fits.room)

-- ---- edition 1

length_word : (w lo hi : ℕ) → length (word_bytes w lo hi) ≡ 24
unfolding word_bytes
length_word w lo hi = simp (length-append, length_zeros, length_le)

length_rule : (ρ : Rule) → length (rule_bytes ρ) ≡ 8
unfolding rule_bytes
length_rule ρ = simp length_zeros

word_clear : (w lo hi x : ℕ) → 1 ≤ x → x < 8 → at (word_bytes w lo hi) x ≡ 0
unfolding word_bytes zeros
word_clear w lo hi (suc zero) p q = refl
word_clear w lo hi (suc (suc zero)) p q = refl
word_clear w lo hi (suc (suc (suc zero))) p q = refl
word_clear w lo hi (suc (suc (suc (suc zero)))) p q = refl
word_clear w lo hi (suc (suc (suc (suc (suc zero))))) p q = refl
word_clear w lo hi (suc (suc (suc (suc (suc (suc zero)))))) p q = refl
word_clear w lo hi (suc (suc (suc (suc (suc (suc (suc zero))))))) p q = refl
word_clear w lo hi (suc (suc (suc (suc (suc (suc (suc (suc x)))))))) p q = absurd (omega arith)
word_clear w lo hi zero p q = absurd (omega arith)

rule_clear : (ρ : Rule) (x : ℕ) → 6 ≤ x → at (rule_bytes ρ) x ≡ 0
unfolding rule_bytes
rule_clear ρ (suc (suc (suc (suc (suc (suc x)))))) p = at_zeros 2 x
rule_clear ρ zero p = absurd (omega arith)
rule_clear ρ (suc zero) p = absurd (omega arith)
rule_clear ρ (suc (suc zero)) p = absurd (omega arith)
rule_clear ρ (suc (suc (suc zero))) p = absurd (omega arith)
rule_clear ρ (suc (suc (suc (suc zero)))) p = absurd (omega arith)
rule_clear ρ (suc (suc (suc (suc (suc zero))))) p = absurd (omega arith)

pub fair1 : Fair edition1
unfolding word_record rule_record blocks_for
fair1 = record {
  words = record {
    some = omega arith;
    wide = omega arith;
    room = omega arith;
    sized = λ l j. length_word _ _ _;
    clear = λ l j x. word_clear _ _ _ x;
  };
  rules = record {
    some = omega arith;
    wide = omega arith;
    room = omega arith;
    sized = λ l j. length_rule _;
    clear = λ l j x p q. rule_clear _ x p;
  };
  enough = omega arith;
  few = omega arith;
  byte = omega arith;
}
