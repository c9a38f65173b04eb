-- A proper file is the file of the problem read off it, byte by byte.
use Rattle.std.proofs.Common.{◌≡◌, ℕ, ◌+◌, ◌-◌, ◌*◌, ◌/◌, ◌%◌, ◌^◌, ◌<◌, ◌≤◌, List, length, sym, ◌∙◌, mod-lt, arith}
use native.Mathlib.Nat.{div-add-mod}
use native.Mathlib.Decide.{dec_lt}
use lib.ListN.{get_or-eq_default}
use Rattle.lists.specs.Lists.{at, part}
use Rattle.problem.specs.Lent.{word_count, width_at, rule_count}
use Rattle.blocks.specs.Records.{word_record, rule_record}
use Rattle.blocks.specs.Edition.{Form, edition1}
use Rattle.blocks.specs.Block.{Clear}
use Rattle.blocks.specs.File.{block_at, Blocks, ProperFile}
use Rattle.blocks.specs.Written.{word_blocks, rule_blocks, file_of, encode, Storable, IsFile}
use Rattle.blocks.specs.Decode.{slot, words_in, rules_in}
use Rattle.lists.proofs.Parts.{at_part, short_part}
use Rattle.lists.proofs.Unders.{under_part, under_series}
use Rattle.blocks.proofs.Numbers.{number_under}
use Rattle.blocks.specs.Fair.{FormFits}
use Rattle.blocks.proofs.Fair.{fair1}
use Rattle.blocks.proofs.Counts.{block_there}
use Rattle.blocks.proofs.InOrder.{blocks_number, blocks_held}
use Rattle.blocks.proofs.Sequence.{raw_at, blocks_of_same}
use Rattle.blocks.proofs.Records.{limit_fits}
use Rattle.blocks.proofs.Files.{proper_bytes}
use Rattle.lists.proofs.Series.{length_series}
use Rattle.blocks.proofs.Decoded.{small_width, word_decoded, rule_decoded}

pub length_words : (f : List ℕ) (n : ℕ) → length (words_in f n) ≡ 3 * n
unfolding words_in
length_words f n = length_series (3 * n) _

pub length_rules : (f : List ℕ) (n m : ℕ) → length (rules_in f n m) ≡ 6 * m
unfolding rules_in
length_rules f n m = length_series (6 * m) _

pub count_words : (f : List ℕ) (n : ℕ) → word_count (words_in f n) ≡ n
count_words f n = rw (length_words f n) (omega arith)

pub count_rules : (f : List ℕ) (n m : ℕ) → rule_count (rules_in f n m) ≡ m
count_rules f n m = rw (length_rules f n m) (omega arith)

-- bytes that are 0 in a block are 0 in the file
clear_at : (f : List ℕ) (i a e : ℕ) → e ≤ 512 → Clear (block_at f i) a e → Clear f (512 * i + a) (512 * i + e)
clear_at f i a e h z = record { zero_at = λ x lo hi. go x (x - 512 * i) (omega arith) (omega arith) (omega arith) }
  where
    go : (x y : ℕ) → x ≡ 512 * i + y → a ≤ y → y < e → at f x ≡ 0
    go x y q lo hi = rw q (sym (at_part f (512 * i) 512 y (omega arith)) ∙ z.zero_at y lo hi)

-- the gap of record j among the blocks of one form
gap_at : (kind : ℕ) (F : Form) (fits : FormFits F) (f : List ℕ) (first q n j : ℕ) → Blocks edition1 kind F f first q n → j < n
    → 8 + F.size * (j % F.most) + 8 ≤ 512
    → Clear f (512 * (first + j / F.most) + (8 + F.size * (j % F.most) + F.used)) (512 * (first + j / F.most) + (8 + F.size * (j % F.most) + 8))
gap_at kind F fits f first q n j b h l =
    let i = j / F.most in
    let e = div-add-mod j F.most in
    let g = mod-lt j fits.some in
    let inside : i < q = rw (blocks_number edition1 kind F fits f first q n b) (block_there F.most fits.some n i (omega arith)) in
    let c = blocks_held edition1 kind F fits f first q n b i inside in
    clear_at f (first + i) _ _ l ((b.each i inside).records.gaps (j % F.most) (omega arith))

module _ {f : List ℕ} {n m l : ℕ} (a : ProperFile edition1 f n m l) where
  before : a.p ≡ word_blocks edition1 n
  before = blocks_number edition1 1 edition1.words fair1.words f 0 a.p n a.words

  after : a.q ≡ rule_blocks edition1 m
  after = blocks_number edition1 2 edition1.rules fair1.rules f a.p a.q m a.rules

  -- so many blocks are in the file
  pub proper_room : 512 * (word_blocks edition1 n + rule_blocks edition1 m) ≤ length f
  proper_room = omega (arith, a.long, before, after)

  word_gap : (j : ℕ) → j < n → Clear f (slot (3 * j) + 1) (slot (3 * j) + 8)
  word_gap j h =
      let from : 512 * (0 + j / 21) + (8 + 24 * (j % 21) + 1) ≡ slot (3 * j) + 1 = omega arith in
      let to : 512 * (0 + j / 21) + (8 + 24 * (j % 21) + 8) ≡ slot (3 * j) + 8 = omega arith in
      rw (← from, ← to) (gap_at 1 edition1.words fair1.words f 0 a.p n j a.words h (omega arith))

  rule_gap : (j : ℕ) → j < m → Clear f (512 * word_blocks edition1 n + slot j + 6) (512 * word_blocks edition1 n + slot j + 8)
  rule_gap j h =
      let from : 512 * (a.p + j / 63) + (8 + 8 * (j % 63) + 6) ≡ 512 * word_blocks edition1 n + slot j + 6 = omega (arith, before) in
      let to : 512 * (a.p + j / 63) + (8 + 8 * (j % 63) + 8) ≡ 512 * word_blocks edition1 n + slot j + 8 = omega (arith, before) in
      rw (← from, ← to) (gap_at 2 edition1.rules fair1.rules f a.p a.q m j a.rules h (omega arith))

  small : (i : ℕ) → width_at (words_in f n) i < 256
  small i = go (dec_lt i n)
    where
      go : Dec (i < n) → width_at (words_in f n) i < 256
      go (yes h) = small_width f n (omega (arith, a.long, before)) a.bytes i h (word_gap i h)
      go (no h) = rw (get_or-eq_default (words_in f n) 0 {n = 3 * i} (rw length_words (omega arith))) (omega arith)

  stored : Storable l (words_in f n) (rules_in f n m)
  unfolding words_in rules_in
  stored = record {
    sized = record {
      whole_words = rw (length_words f n) (omega arith);
      whole_rules = rw (length_rules f n m) (omega arith);
      words = rw (count_words f n) a.few;
      rules = rw (count_rules f n m) a.many;
    };
    width = small;
    words = under_series (2 ^ 64) (3 * n) _ (omega arith)
        (λ x h. number_under 8 (part f (slot x) 8) (short_part f (slot x) 8) (under_part 256 f (slot x) 8 (omega arith) a.bytes));
    rules = under_series 256 (6 * m) _ (omega arith) (λ x h. a.bytes.each (512 * word_blocks edition1 n + slot (x / 6) + x % 6));
    guesses = limit_fits edition1 (under_part 256 f (512 * (a.p + a.q)) 512 (omega arith) a.bytes) a.end;
  }

  pub proper_written : IsFile edition1 l (words_in f n) (rules_in f n m) f
  unfolding encode file_of
  proper_written = record {
    storable = stored;
    same =
        proper_bytes edition1 fair1 a
        ∙ rw (
          count_words f n,
          count_rules f n m,
          blocks_of_same edition1 1 edition1.words fair1.words 0 n (raw_at edition1.words f 0) (word_record (words_in f n)) (word_blocks edition1 n)
              (λ j h. word_decoded f n (omega (arith, a.long, before)) a.bytes j h (small j)),
          blocks_of_same edition1 2 edition1.rules fair1.rules (word_blocks edition1 n) m (raw_at edition1.rules f (word_blocks edition1 n))
              (rule_record (rules_in f n m)) (rule_blocks edition1 m)
              (λ j h. rule_decoded f n m (omega (arith, a.long, before, after)) j h (rule_gap j h)),
        );
  }
