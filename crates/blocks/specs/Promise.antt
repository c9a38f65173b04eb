-- To be believed: what reading and writing promise: the answer, its place and every lent number afterwards, on each input.
use Rattle.std.specs.Prelude.{◌≡◌, ℕ, ◌≤◌, List, length, Result, Ok, Err}
use Rattle.checker.specs.declared.refusal.Refusal.{Refusal}
use Rattle.checker.specs.declared.refusal.Refusal.TheVariants.{Size}
use Rattle.problem.specs.Lent.{word_count, rule_count}
use Rattle.blocks.specs.declared.Problem.{Problem}
use Rattle.lists.specs.Lists.{put}
use Rattle.blocks.specs.Edition.{Edition}
use Rattle.rules.specs.ProperProblem.{most_words, most_rules}
use Rattle.blocks.specs.File.{Whole, Fault}
use Rattle.blocks.specs.Written.{encode, IsFile}

-- room for 32 words and 252 rules
pub record Room (ws bs : List ℕ) : Type 0 where
  pub words : most_words ≤ word_count ws
  pub rules : most_rules ≤ rule_count bs

-- the counts of words and rules, and the limit
abbrev pub problem_of : ℕ → List ℕ → List ℕ → Problem
problem_of limit ws bs = record { words = word_count ws; rules = rule_count bs; limit = limit }

module _ (E : Edition) where
  -- Reading a file into the lent words and rules, which are words' and rules' afterwards
  pub data Reads (file words rules words' rules' : List ℕ) : Result Problem Refusal → Type 0 where
    size : ¬ (Room words rules × Whole E file) → words' ≡ words → rules' ≡ rules → Reads file words rules words' rules' (Err Size)
    fault : {r : Refusal} → Room words rules → Whole E file → Fault E file r → words' ≡ words → rules' ≡ rules
        → Reads file words rules words' rules' (Err r)
    refused : {r : Refusal} {limit : ℕ} {ws bs : List ℕ} → Room words rules → IsFile E limit ws bs file → E.judge limit ws bs ≡ Err r → words' ≡ words
        → rules' ≡ rules
        → Reads file words rules words' rules' (Err r)
    ok : {limit : ℕ} {ws bs : List ℕ} {x : Problem} → Room words rules → IsFile E limit ws bs file → E.judge limit ws bs ≡ Ok tt
        → x ≡ problem_of limit ws bs → words' ≡ put words 0 ws → rules' ≡ put rules 0 bs → Reads file words rules words' rules' (Ok x)

  -- Writing the lent words ws and rules bs with a limit into the lent file, which is file' afterwards
  pub data Writes (limit : ℕ) (ws bs file file' : List ℕ) : Result ℕ Refusal → Type 0 where
    size : ¬ (length (encode E limit ws bs) ≤ length file) → file' ≡ file → Writes limit ws bs file file' (Err Size)
    refused : {r : Refusal} → length (encode E limit ws bs) ≤ length file → E.judge limit ws bs ≡ Err r → file' ≡ file
        → Writes limit ws bs file file' (Err r)
    ok : {k : ℕ} → length (encode E limit ws bs) ≤ length file → E.judge limit ws bs ≡ Ok tt
        → k ≡ length (encode E limit ws bs) → file' ≡ put file 0 (encode E limit ws bs) → Writes limit ws bs file file' (Ok k)
