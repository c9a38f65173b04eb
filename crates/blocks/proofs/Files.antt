-- A proper file is just the file of the records that stand in it, whatever the records are.
use Rattle.std.proofs.Common.{◌≡◌, ℕ, ◌+◌, ◌*◌, ◌<◌, List, ◌++◌, length, sym, refl, ◌∙◌, add-zero, zero-add, arith, length-append}
use Rattle.lists.specs.Lists.{part}
use Rattle.blocks.specs.Bytes.{le}
use Rattle.blocks.specs.Edition.{Edition}
use Rattle.blocks.specs.File.{block_at, ProperFile}
use Rattle.blocks.specs.Written.{block, blocks_of, word_blocks, rule_blocks, file_of}
use Rattle.lists.proofs.Parts.{length_part, part_add, part_all, part_left, part_right}
use Rattle.lists.proofs.Unders.{under_part}
use Rattle.blocks.proofs.Numbers.{length_le}
use Rattle.blocks.proofs.Block.{length_block}
use Rattle.blocks.specs.Fair.{Fair}
use Rattle.blocks.proofs.Records.{end_block}
use Rattle.blocks.proofs.InOrder.{blocks_number}
use Rattle.blocks.proofs.Sequence.{raw_at, length_blocks_of, blocks_bytes, raw_is}

-- ---- from a proper file to its bytes

three_parts : (f : List ℕ) (a b c : ℕ) → length f ≡ a + b + c → f ≡ (part f 0 a ++ part f a b) ++ part f (a + b) c
three_parts f a b c e =
    let z = zero-add a in
    sym (part_all f (a + b + c) e)
    ∙ part_add f 0 (a + b) c
    ∙ rw (part_add f 0 a b, zero-add (a + b), z)

pub proper_bytes : (E : Edition) → Fair E → {f : List ℕ} {n m l : ℕ} → ProperFile E f n m l
    → f ≡ file_of E (raw_at E.words f 0) n (raw_at E.rules f (word_blocks E n)) m l
unfolding file_of
proper_bytes E fair {f} {n} {m} {l} a =
    let p = blocks_number E 1 E.words fair.words f 0 a.p n a.words in
    let q = blocks_number E 2 E.rules fair.rules f a.p a.q m a.rules in
    let w = blocks_bytes E 1 E.words fair.words 0 n f a.p a.bytes (omega (arith, a.long)) a.words in
    let r = blocks_bytes E 2 E.rules fair.rules a.p m f a.q a.bytes (omega (arith, a.long)) a.rules in
    let i = a.p + a.q in
    let x = end_block E (length_part f (512 * i) 512 (omega (arith, a.long))) (under_part 256 f (512 * i) 512 (omega arith) a.bytes) a.end in
    let k : 512 * a.p + 512 * a.q ≡ 512 * i = omega arith in
    let t = three_parts f (512 * a.p) (512 * a.q) 512 (omega (arith, a.long)) in
    t ∙ rw (k, w, r, x, p, q)

-- ---- the three parts of a file of records

abbrev pub words_part : (E : Edition) (w : ℕ → List ℕ) (n : ℕ) → List ℕ
words_part E w n = blocks_of E 1 E.words.most 0 n w (word_blocks E n)

abbrev pub rules_part : (E : Edition) (n : ℕ) (r : ℕ → List ℕ) (m : ℕ) → List ℕ
rules_part E n r m = blocks_of E 2 E.rules.most (word_blocks E n) m r (rule_blocks E m)

abbrev pub end_part : (E : Edition) (n m l : ℕ) → List ℕ
end_part E n m l = block E 3 (word_blocks E n + rule_blocks E m) 0 (le 4 l)

module _ (E : Edition) (fair : Fair E) (w r : ℕ → List ℕ) (n m l : ℕ)
    (words : (j : ℕ) → length (w j) ≡ E.words.size) (rules : (j : ℕ) → length (r j) ≡ E.rules.size) where
  length_words : length (words_part E w n) ≡ 512 * word_blocks E n
  length_words = length_blocks_of E 1 E.words fair.words 0 n w words (word_blocks E n)

  length_rules : length (rules_part E n r m) ≡ 512 * rule_blocks E m
  length_rules = length_blocks_of E 2 E.rules fair.rules (word_blocks E n) m r rules (rule_blocks E m)

  length_end : length (end_part E n m l) ≡ 512
  length_end = length_block E 3 (word_blocks E n + rule_blocks E m) 0 (le 4 l) (rw length_le (omega arith))

  length_both : length ((words_part E w n) ++ (rules_part E n r m)) ≡ 512 * (word_blocks E n + rule_blocks E m)
  length_both = length-append (words_part E w n) (rules_part E n r m) ∙ omega (arith, length_words, length_rules)

  pub length_file : length (file_of E w n r m l) ≡ 512 * (word_blocks E n + rule_blocks E m + 1)
  unfolding file_of
  length_file = length-append ((words_part E w n) ++ (rules_part E n r m)) (end_part E n m l) ∙ omega (arith, length_both, length_end)

  pub first_there : part (file_of E w n r m l) 0 (512 * word_blocks E n) ≡ words_part E w n
  unfolding file_of
  first_there =
      part_left ((words_part E w n) ++ (rules_part E n r m)) (end_part E n m l) 0 (512 * word_blocks E n) (omega (arith, length_both))
      ∙ part_left (words_part E w n) (rules_part E n r m) 0 (512 * word_blocks E n) (omega (arith, length_words))
      ∙ part_all (words_part E w n) (512 * word_blocks E n) length_words

  pub second_there : part (file_of E w n r m l) (512 * word_blocks E n) (512 * rule_blocks E m) ≡ rules_part E n r m
  unfolding file_of
  second_there =
      let e = part_right (words_part E w n) (rules_part E n r m) 0 (512 * rule_blocks E m) (512 * word_blocks E n) length_words in
      part_left ((words_part E w n) ++ (rules_part E n r m)) (end_part E n m l) (512 * word_blocks E n) (512 * rule_blocks E m) (omega (arith, length_both))
      ∙ (rw add-zero at e)
      ∙ part_all (rules_part E n r m) (512 * rule_blocks E m) length_rules

  pub third_there : block_at (file_of E w n r m l) (word_blocks E n + rule_blocks E m) ≡ end_part E n m l
  unfolding file_of
  third_there =
      let e = part_right ((words_part E w n) ++ (rules_part E n r m)) (end_part E n m l) 0 512 (512 * (word_blocks E n + rule_blocks E m)) length_both in
      (rw add-zero at e) ∙ part_all (end_part E n m l) 512 length_end

  -- each record stands in its place
  pub word_there : (j : ℕ) → j < n → raw_at E.words (file_of E w n r m l) 0 j ≡ w j
  word_there = raw_is E 1 E.words fair.words 0 n (file_of E w n r m l) (word_blocks E n) w words refl first_there

  pub rule_there : (j : ℕ) → j < m → raw_at E.rules (file_of E w n r m l) (word_blocks E n) j ≡ r j
  rule_there = raw_is E 2 E.rules fair.rules (word_blocks E n) m (file_of E w n r m l) (rule_blocks E m) r rules refl second_there
