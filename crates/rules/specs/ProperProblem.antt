-- To be believed: a proper problem: its table is as "Words" says, each of its rules as "Rules" says, and it has at most 32 words and 252 rules.
use Rattle.std.specs.Prelude.{◌≡◌, Bool, true, false, List, ℕ, ◌≤◌, ◌<◌, T, length}
use Rattle.words.specs.Table.{Table}
use Rattle.lists.specs.Lists.{at}
use Rattle.rules.specs.Kinds.{Place, COPY, NOT, AND, OR, XOR, ADD, ITE, SLICE, JOIN, SHL, SHR, Kind, op, rel, kind_of}
use Rattle.rules.specs.Rows.{uses, Fitting}
use Rattle.rules.specs.Tight.{Rule, word, rule}
use Rattle.rules.specs.Proper.{Proper}

-- the kinds that use the field k
abbrev pub uses_k : Kind → Bool
uses_k (op COPY) = false
uses_k (op NOT) = false
uses_k (op AND) = false
uses_k (op OR) = false
uses_k (op XOR) = false
uses_k (op ADD) = false
uses_k (op ITE) = false
uses_k (op SLICE) = true
uses_k (op JOIN) = false
uses_k (op SHL) = true
uses_k (op SHR) = true
uses_k (rel x) = false

-- the number of the last kind; there are kinds from 1 on
abbrev pub kinds : ℕ
kinds = 14

-- the number of a kind
pub record KindNumber (κ : ℕ) : Type 0 where
  pub low : 1 ≤ κ
  pub high : κ ≤ kinds

-- word numbers that the kind uses are below the number n of words, and a field that it does not use is 0
pub record Fields (n : ℕ) (ρ : Rule) : Type 0 where
  pub used : (p : Place) → T (uses (kind_of ρ.kind) p) → word ρ p < n
  pub unused : (p : Place) → ¬ T (uses (kind_of ρ.kind) p) → word ρ p ≡ 0
  pub unused_k : ¬ T (uses_k (kind_of ρ.kind)) → ρ.k ≡ 0

-- a rule over words of the widths w
pub record ProperRule (w : List ℕ) (ρ : Rule) : Type 0 where
  pub kind : KindNumber ρ.kind
  pub fields : Fields (length w) ρ
  pub fit : Fitting (kind_of ρ.kind) (λ p. at w (word ρ p)) ρ.k

abbrev pub most_words : ℕ
most_words = 32

abbrev pub most_rules : ℕ
most_rules = 252

pub record ProperProblem (w : List ℕ) (t : Table) (rs : List Rule) : Type 0 where
  pub words : length w ≤ most_words
  pub rules : length rs ≤ most_rules
  pub table : Proper w t
  pub each : (n : ℕ) → n < length rs → ProperRule w (rule rs n)
