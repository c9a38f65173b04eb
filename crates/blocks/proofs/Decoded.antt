-- The numbers read off a file of edition 1 are those whose records stand there, and no others.
use Rattle.std.proofs.Common.{◌≡◌, ℕ, zero, suc, ◌+◌, ◌*◌, ◌/◌, ◌%◌, ◌^◌, ◌<◌, ◌≤◌, List, ◌∷◌, length, sym, refl, ap, ◌∙◌, add-zero, add-one, arith}
use Rattle.lists.specs.Lists.{at, part, zeros, flat, Under}
use Rattle.problem.specs.Lent.{width_at, rule_at}
use Rattle.blocks.specs.Bytes.{le, from_le}
use Rattle.blocks.specs.Records.{rule_bytes, word_record, rule_record}
use Rattle.blocks.specs.Edition.{edition1}
use Rattle.blocks.specs.Block.{Clear}
use Rattle.blocks.specs.Written.{blocks_for, word_blocks, rule_blocks}
use Rattle.blocks.specs.Decode.{slot, words_in, rules_in}
use Rattle.lists.proofs.Parts.{at_part, length_part, part_cons, part_part}
use Rattle.lists.proofs.Pieces.{flat_parts, flat_pieces, flat_same}
use Rattle.blocks.proofs.Numbers.{length_le, number_le, part_le}
use Rattle.blocks.proofs.Records.{clear_part}
use Rattle.blocks.proofs.Sequence.{raw_at}
use Rattle.lists.proofs.Series.{series_at}
use Rattle.blocks.proofs.Items.{word_items, rule_item}

-- word j is three items, one after the other
slot_word : (j x : ℕ) → x < 3 → 512 * (0 + j / 21) + (8 + 24 * (j % 21)) + 8 * x ≡ slot (3 * j + x)
slot_word j x h = omega arith

pub word_raw : (f : List ℕ) (j : ℕ) → raw_at edition1.words f 0 j ≡ flat 3 (λ x. part f (slot (3 * j + x)) 8)
unfolding raw_at
word_raw f j =
    part_part f (512 * (0 + j / 21)) 512 (8 + 24 * (j % 21)) 24 (omega arith)
    ∙ flat_parts f (512 * (0 + j / 21) + (8 + 24 * (j % 21))) 8 3
    ∙ flat_same 3 _ _ (λ x h. ap (λ a. part f a 8) (slot_word j x h))

module _ (f : List ℕ) (n : ℕ) (long : 512 * word_blocks edition1 n ≤ length f) where
  slot_inside : (x : ℕ) → x < 3 * n → slot x + 8 ≤ length f
  unfolding blocks_for
  slot_inside x h = omega arith

  -- from the file to the numbers: a width, which is one byte and seven zeros, is below 256
  pub small_width : Under 256 f → (j : ℕ) → j < n → Clear f (slot (3 * j) + 1) (slot (3 * j) + 8) → width_at (words_in f n) j < 256
  unfolding words_in from_le zeros
  small_width u j h z =
      let a = slot (3 * j) in
      let inside = slot_inside (3 * j) (omega arith) in
      let rest = clear_part f (a + 1) 7 (a + 8) (omega arith) (omega arith) z in
      let e : part f a 8 ≡ at f a ∷ zeros 7 = part_cons f a 7 (omega arith) ∙ ap (λ t. at f a ∷ t) (rw (← add-one a) rest) in
      rw (series_at 0 (3 * n) (3 * j) (λ x. from_le (part f (slot x) 8)) (omega arith), e) (omega (arith, u.each a))

  pub word_decoded : Under 256 f → (j : ℕ) → j < n → width_at (words_in f n) j < 256 → raw_at edition1.words f 0 j ≡ word_record (words_in f n) j
  unfolding words_in
  word_decoded u j h w = word_raw f j ∙ flat_same 3 _ _ (λ x g. item x g) ∙ sym (word_items (words_in f n) j w)
    where
      item : (x : ℕ) → x < 3 → part f (slot (3 * j + x)) 8 ≡ le 8 (at (words_in f n) (3 * j + x))
      item x g =
          part_le f (slot (3 * j + x)) 8 u (slot_inside (3 * j + x) (omega arith))
          ∙ ap (le 8) (sym (series_at 0 (3 * n) (3 * j + x) (λ y. from_le (part f (slot y) 8)) (omega arith)))

  -- from the numbers to the file
  pub word_encoded : (ws : List ℕ) → Under (2 ^ 64) ws → (j : ℕ) → j < n → width_at ws j < 256 → raw_at edition1.words f 0 j ≡ word_record ws j
      → (x : ℕ) → x < 3 → from_le (part f (slot (3 * j + x)) 8) ≡ at ws (3 * j + x)
  word_encoded ws u j h w e x g =
      let same = flat_pieces 3 8 (λ x. part f (slot (3 * j + x)) 8) (λ x. le 8 (at ws (3 * j + x)))
      (λ y l. length_part f (slot (3 * j + y)) 8 (slot_inside (3 * j + y) (omega arith))) (λ y l. length_le 8 (at ws (3 * j + y)))
      (sym (word_raw f j) ∙ e ∙ word_items ws j w) x g in
      ap from_le same ∙ number_le 8 (at ws (3 * j + x)) (u.each (3 * j + x))

-- ---- rules

-- rule j is one item after the words blocks
slot_rule : (B j : ℕ) → 512 * (B + j / 63) + (8 + 8 * (j % 63)) ≡ 512 * B + slot j
slot_rule B j = omega arith

pub rule_raw : (f : List ℕ) (B j : ℕ) → raw_at edition1.rules f B j ≡ part f (512 * B + slot j) 8
unfolding raw_at
rule_raw f B j =
    part_part f (512 * (B + j / 63)) 512 (8 + 8 * (j % 63)) 8 (omega arith) ∙ ap (λ a. part f a 8) (slot_rule B j)

module _ (f : List ℕ) (n m : ℕ) (long : 512 * (word_blocks edition1 n + rule_blocks edition1 m) ≤ length f) where
  abbrev place : ℕ → ℕ
  place j = 512 * word_blocks edition1 n + slot j

  item_inside : (j : ℕ) → j < m → place j + 8 ≤ length f
  unfolding blocks_for
  item_inside j h = omega arith

  field : (j x : ℕ) → j < m → x < 6 → at (part f (place j) 8) x ≡ at (rules_in f n m) (6 * j + x)
  unfolding rules_in
  field j x h g =
      let a : (6 * j + x) / 6 ≡ j = omega arith in
      let b : (6 * j + x) % 6 ≡ x = omega arith in
      at_part f (place j) 8 x (omega arith)
      ∙ sym (series_at 0 (6 * m) (6 * j + x) (λ y. at f (512 * word_blocks edition1 n + slot (y / 6) + y % 6)) (omega arith) ∙ rw (a, b))

  pub rule_decoded : (j : ℕ) → j < m → Clear f (place j + 6) (place j + 8) → raw_at edition1.rules f (word_blocks edition1 n) j ≡ rule_record (rules_in f n m) j
  unfolding rule_record
  rule_decoded j h z =
      let p = place j in
      let inside = item_inside j h in
      rule_raw f (word_blocks edition1 n) j
      ∙ rule_item (part f p 8) (rule_at (rules_in f n m) j) (length_part f p 8 inside)
      (field j 0 h (omega arith) ∙ ap (at (rules_in f n m)) (add-zero (6 * j)))
      (field j 1 h (omega arith))
      (field j 2 h (omega arith))
      (field j 3 h (omega arith))
      (field j 4 h (omega arith))
      (field j 5 h (omega arith))
      (at_part f p 8 6 (omega arith) ∙ z.zero_at (p + 6) (omega arith) (omega arith))
      (at_part f p 8 7 (omega arith) ∙ z.zero_at (p + 7) (omega arith) (omega arith))

  pub rule_encoded : (bs : List ℕ) (j : ℕ) → raw_at edition1.rules f (word_blocks edition1 n) j ≡ rule_record bs j
      → (x : ℕ) → x < 6 → at f (place j + x) ≡ at bs (6 * j + x)
  unfolding rule_record rule_bytes
  rule_encoded bs j e x g =
      sym (at_part f (place j) 8 x (omega arith)) ∙ ap (λ t. at t x) (sym (rule_raw f (word_blocks edition1 n) j) ∙ e) ∙ fields_of x g
    where
      fields_of : (x : ℕ) → x < 6 → at (rule_bytes (rule_at bs j)) x ≡ at bs (6 * j + x)
      fields_of zero g = ap (at bs) (sym (add-zero (6 * j)))
      fields_of (suc zero) g = refl
      fields_of (suc (suc zero)) g = refl
      fields_of (suc (suc (suc zero))) g = refl
      fields_of (suc (suc (suc (suc zero)))) g = refl
      fields_of (suc (suc (suc (suc (suc zero))))) g = refl
      fields_of (suc (suc (suc (suc (suc (suc x)))))) g = absurd (omega arith)
