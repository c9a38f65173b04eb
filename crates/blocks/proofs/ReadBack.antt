-- The file of a problem is proper, and the numbers read off it are the problem's.
use Rattle.std.proofs.Common.{◌≡◌, ℕ, ◌+◌, ◌*◌, ◌/◌, ◌%◌, ◌<◌, List, ◌∷◌, length, ap, ◌∙◌, subst, arith}
use Rattle.lists.specs.Lists.{at, part, zeros, Under}
use Rattle.problem.specs.Lent.{word_count, rule_count}
use Rattle.blocks.specs.Bytes.{le, from_le}
use Rattle.blocks.specs.Records.{word_bytes, rule_bytes, word_record, rule_record}
use Rattle.blocks.specs.Edition.{edition1}
use Rattle.blocks.specs.File.{ProperFile}
use Rattle.blocks.specs.Written.{encode, word_blocks, rule_blocks, Storable, IsFile}
use Rattle.blocks.specs.Decode.{slot, words_in, rules_in}
use Rattle.lists.proofs.Unders.{under_append, under_cons, under_zeros}
use Rattle.blocks.proofs.Under.{under_le}
use Rattle.blocks.proofs.Fair.{fair1}
use Rattle.blocks.proofs.Once.{proper_once}
use Rattle.blocks.proofs.Sequence.{raw_at}
use Rattle.blocks.proofs.Files.{length_file, word_there, rule_there}
use Rattle.blocks.proofs.Made.{Made, bytes_proper}
use Rattle.lists.proofs.Series.{series_is}
use Rattle.blocks.proofs.Decoded.{word_encoded, rule_encoded}

-- whatever the lent numbers are
pub length_encode : (limit : ℕ) (ws bs : List ℕ)
    → length (encode edition1 limit ws bs) ≡ 512 * (word_blocks edition1 (word_count ws) + rule_blocks edition1 (rule_count bs) + 1)
unfolding encode
length_encode limit ws bs =
    length_file edition1 fair1 (word_record ws) (rule_record bs) (word_count ws) (rule_count bs) limit (fair1.words.sized ws) (fair1.rules.sized bs)

module _ {limit : ℕ} {ws bs : List ℕ} (ok : Storable limit ws bs) where
  abbrev n : ℕ
  n = word_count ws

  abbrev m : ℕ
  m = rule_count bs

  made_words : Made edition1.words (word_record ws)
  unfolding word_record word_bytes
  made_words = record {
    sized = fair1.words.sized ws;
    clear = fair1.words.clear ws;
    under = λ j. under_cons 256 _ _ (ok.width j)
        (under_append 256 (zeros 7) _ (under_zeros 256 7 (omega arith)) (under_append 256 (le 8 _) (le 8 _) (under_le 8 _) (under_le 8 _)));
  }

  made_rules : Made edition1.rules (rule_record bs)
  unfolding rule_record rule_bytes
  made_rules = record {
    sized = fair1.rules.sized bs;
    clear = fair1.rules.clear bs;
    under = λ j. byte (6 * j) (byte (6 * j + 1) (byte (6 * j + 2) (byte (6 * j + 3) (byte (6 * j + 4) (byte (6 * j + 5) (under_zeros 256 2 (omega arith)))))));
  }
    where
      byte : (y : ℕ) {l : List ℕ} → Under 256 l → Under 256 (at bs y ∷ l)
      byte y {l} u = under_cons 256 (at bs y) l (ok.rules.each y) u

  pub written_proper : ProperFile edition1 (encode edition1 limit ws bs) n m limit
  unfolding encode
  written_proper =
      bytes_proper edition1 fair1 (word_record ws) (rule_record bs) n m limit made_words made_rules ok.sized.words ok.sized.rules ok.guesses

  -- ---- read back

  pub words_back : words_in (encode edition1 limit ws bs) n ≡ ws
  unfolding words_in encode
  words_back = series_is ws (3 * n) _ (omega (arith, ok.sized.whole_words)) (λ x h. item x h)
    where
      f : List ℕ
      f = encode edition1 limit ws bs

      there : (j : ℕ) → j < n → raw_at edition1.words f 0 j ≡ word_record ws j
      there = word_there edition1 fair1 (word_record ws) (rule_record bs) n m limit made_words.sized made_rules.sized

      item : (x : ℕ) → x < 3 * n → from_le (part f (slot x) 8) ≡ at ws x
      item x h =
          let e : 3 * (x / 3) + x % 3 ≡ x = omega arith in
          let j = x / 3 in
          let h' : j < n = omega arith in
          let t = word_encoded f n (omega (arith, length_encode limit ws bs)) ws ok.words j h' (ok.width j) (there j h') (x % 3) (omega arith) in
          subst (λ y. from_le (part f (slot y) 8) ≡ at ws y) e t

  pub rules_back : rules_in (encode edition1 limit ws bs) n m ≡ bs
  unfolding rules_in encode
  rules_back = series_is bs (6 * m) _ (omega (arith, ok.sized.whole_rules)) (λ x h. field x h)
    where
      f : List ℕ
      f = encode edition1 limit ws bs

      there : (j : ℕ) → j < m → raw_at edition1.rules f (word_blocks edition1 n) j ≡ rule_record bs j
      there = rule_there edition1 fair1 (word_record ws) (rule_record bs) n m limit made_words.sized made_rules.sized

      field : (x : ℕ) → x < 6 * m → at f (512 * word_blocks edition1 n + slot (x / 6) + x % 6) ≡ at bs x
      field x h =
          let e : 6 * (x / 6) + x % 6 ≡ x = omega arith in
          rule_encoded f n m (omega (arith, length_encode limit ws bs)) bs (x / 6) (there (x / 6) (omega arith)) (x % 6) (omega arith) ∙ ap (at bs) e

-- the file of a problem is proper
pub file_proper : {limit : ℕ} {ws bs f : List ℕ} → IsFile edition1 limit ws bs f → ProperFile edition1 f (word_count ws) (rule_count bs) limit
file_proper is = let e = is.same in rw e (written_proper is.storable)

-- a file is that of one problem
pub one_problem : {limit limit' : ℕ} {ws bs ws' bs' f : List ℕ} → IsFile edition1 limit ws bs f → IsFile edition1 limit' ws' bs' f
    → (limit ≡ limit') × (ws ≡ ws') × (bs ≡ bs')
one_problem {limit} {limit'} {ws} {bs} {ws'} {bs'} {f} a b =
    let d = a.same in
    let e = b.same in
    let (k, j, l) = proper_once fair1 (file_proper a) (file_proper b) in
    let w = words_back a.storable in
    let w' = words_back b.storable in
    let r = rules_back a.storable in
    let r' = rules_back b.storable in
    (l, cc, cc)
