-- Records that are as their form asks make a proper file.
use Rattle.std.proofs.Common.{◌≡◌, ℕ, ◌+◌, ◌*◌, ◌^◌, ◌<◌, ◌≤◌, List, ◌++◌, length, refl, arith}
use Rattle.lists.specs.Lists.{at, Under}
use Rattle.blocks.specs.Bytes.{le}
use Rattle.blocks.specs.Edition.{Form, Edition}
use Rattle.rules.specs.ProperProblem.{most_words, most_rules}
use Rattle.blocks.specs.File.{ProperFile}
use Rattle.blocks.specs.Written.{held, blocks_of, word_blocks, rule_blocks, file_of}
use Rattle.lists.proofs.Unders.{under_append, under_flat}
use Rattle.blocks.proofs.Under.{under_block, under_le}
use Rattle.blocks.specs.Fair.{Fair}
use Rattle.blocks.proofs.Records.{block_end}
use Rattle.blocks.proofs.Counts.{blocks_rise}
use Rattle.blocks.proofs.Sequence.{bytes_blocks}
use Rattle.blocks.proofs.Files.{words_part, rules_part, end_part, length_file, first_there, second_there, third_there}

-- of one length, their gaps 0, their bytes below 256
pub record Made (F : Form) (bytes : ℕ → List ℕ) : Type 0 where
  pub sized : (j : ℕ) → length (bytes j) ≡ F.size
  pub clear : (j x : ℕ) → F.used ≤ x → x < 8 → at (bytes j) x ≡ 0
  pub under : (j : ℕ) → Under 256 (bytes j)

under_blocks : (E : Edition) → Fair E → (kind k b c q : ℕ) (bytes : ℕ → List ℕ) → kind < 256 → ((j : ℕ) → Under 256 (bytes j))
    → Under 256 (blocks_of E kind k b c bytes q)
unfolding blocks_of
under_blocks E fair kind k b c q bytes h u =
    under_flat 256 q _ (omega arith)
    (λ i g. under_block E kind (b + i) (held k c i) _ fair.byte h
    (under_flat 256 (held k c i) (λ j. bytes (k * i + j)) (omega arith) (λ j g. u (k * i + j))))

module _ (E : Edition) (fair : Fair E) (w r : ℕ → List ℕ) (n m l : ℕ) (words : Made E.words w) (rules : Made E.rules r) where
  under_file : Under 256 (file_of E w n r m l)
  unfolding file_of
  under_file =
      under_append 256 (words_part E w n ++ rules_part E n r m) (end_part E n m l)
      (under_append 256 (words_part E w n) (rules_part E n r m)
      (under_blocks E fair 1 E.words.most 0 n (word_blocks E n) w (omega arith) words.under)
      (under_blocks E fair 2 E.rules.most (word_blocks E n) m (rule_blocks E m) r (omega arith) rules.under))
      (under_block E 3 (word_blocks E n + rule_blocks E m) 0 (le 4 l) fair.byte (omega arith) (under_le 4 l))

  abbrev file : List ℕ
  file = file_of E w n r m l

  pub bytes_proper : n ≤ most_words → m ≤ most_rules → l < 2 ^ 32 → ProperFile E (file_of E w n r m l) n m l
  bytes_proper few many small =
      let enough : word_blocks E n + rule_blocks E m + 1 ≤ E.blocks =
      omega (
        arith,
        fair.enough,
        blocks_rise E.words.most fair.words.some n most_words few,
        blocks_rise E.rules.most fair.rules.some m most_rules many,
      ) in
      record {
        p = word_blocks E n;
        q = rule_blocks E m;
        bytes = under_file;
        long = length_file E fair w r n m l words.sized rules.sized;
        blocks = enough;
        words = bytes_blocks E 1 E.words fair.words 0 n file (word_blocks E n) w words.sized refl
            (first_there E fair w r n m l words.sized rules.sized) words.clear (omega (arith, fair.few));
        rules = bytes_blocks E 2 E.rules fair.rules (word_blocks E n) m file (rule_blocks E m) r rules.sized refl
            (second_there E fair w r n m l words.sized rules.sized) rules.clear (omega (arith, fair.few));
        few = few;
        many = many;
        end = block_end E _ (word_blocks E n + rule_blocks E m) l (omega (arith, fair.few)) small (third_there E fair w r n m l words.sized rules.sized);
      }
