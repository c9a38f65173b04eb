-- To be believed: what is asked of a problem, each demand with the number and the place of its refusal, and the order in which they are asked:
-- 1; word by word 4 then 5; rule by rule 6, 7, 8; then 9.
use Rattle.std.specs.Prelude.{◌≡◌, List, ℕ, ◌%◌, ◌≤◌, ◌<◌, length}
use Rattle.words.specs.Word.{Width, Bounded}
use Rattle.rules.specs.Kinds.{kind_of}
use Rattle.rules.specs.Rows.{Fitting}
use Rattle.rules.specs.Tight.{word}
use Rattle.rules.specs.ProperProblem.{KindNumber, Fields, most_words, most_rules}
use Rattle.problem.specs.Lent.{stride, fields, word_count, width_at, lo_at, hi_at, rule_count, rule_at}

pub data Demand : Type 0 where
  SIZE : Demand
  -- of a word
  WIDTH TABLE : ℕ → Demand
  -- of a rule
  KIND FIELD FIT : ℕ → Demand
  LIMIT : Demand

abbrev pub number : Demand → ℕ
number SIZE = 1
number (WIDTH i) = 4
number (TABLE i) = 5
number (KIND n) = 6
number (FIELD n) = 7
number (FIT n) = 8
number LIMIT = 9

abbrev pub place : Demand → ℕ
place SIZE = 0
place (WIDTH i) = i
place (TABLE i) = i
place (KIND n) = n
place (FIELD n) = n
place (FIT n) = n
place LIMIT = 0

-- the sizes, then the words, then the rules, then the limit
abbrev pub phase : Demand → ℕ
phase SIZE = 0
phase (WIDTH i) = 1
phase (TABLE i) = 1
phase (KIND n) = 2
phase (FIELD n) = 2
phase (FIT n) = 2
phase LIMIT = 3

-- d is asked before e: in an earlier phase; in one phase, at an earlier place; at one place, under a smaller number
pub data Before (d e : Demand) : Type 0 where
  by_phase : phase d < phase e → Before d e
  by_place : phase d ≡ phase e → place d < place e → Before d e
  by_number : phase d ≡ phase e → place d ≡ place e → number d < number e → Before d e

-- at most 32 words and 252 rules, none of them cut short
pub record Sized (ws bs : List ℕ) : Type 0 where
  pub whole_words : length ws % stride ≡ 0
  pub whole_rules : length bs % fields ≡ 0
  pub words : word_count ws ≤ most_words
  pub rules : rule_count bs ≤ most_rules

abbrev pub most_guesses : ℕ
most_guesses = 1000000

-- the lent words ws, rules bs and limit meet a demand; one of a word or a rule that is not there asks nothing
module _ (limit : ℕ) (ws bs : List ℕ) where
  abbrev pub Met : Demand → Type 0
  Met SIZE = Sized ws bs
  Met (WIDTH i) = i < word_count ws → Width (width_at ws i)
  Met (TABLE i) = i < word_count ws → Bounded (width_at ws i) (lo_at ws i) (hi_at ws i)
  Met (KIND n) = n < rule_count bs → KindNumber (rule_at bs n).kind
  Met (FIELD n) = n < rule_count bs → Fields (word_count ws) (rule_at bs n)
  Met (FIT n) = n < rule_count bs → Fitting (kind_of (rule_at bs n).kind) (λ p. width_at ws (word (rule_at bs n) p)) (rule_at bs n).k
  Met LIMIT = limit ≤ most_guesses

  -- what is refused is a word or a rule that is there
  abbrev pub There : Demand → Type 0
  There SIZE = Unit {0}
  There (WIDTH i) = i < word_count ws
  There (TABLE i) = i < word_count ws
  There (KIND n) = n < rule_count bs
  There (FIELD n) = n < rule_count bs
  There (FIT n) = n < rule_count bs
  There LIMIT = Unit {0}
