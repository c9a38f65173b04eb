-- To be believed: words that follow from words before them: what demand 3 asks of a problem.
use Rattle.std.specs.Prelude.{◌≡◌, ◌≢◌, ◌⊎◌, List, ℕ, ◌≤◌, ◌<◌, T, length}
use Rattle.words.specs.Table.{Table, Open}
use Rattle.rules.specs.Kinds.{Place, R, kind_of}
use Rattle.rules.specs.Rows.{uses}
use Rattle.rules.specs.Tight.{Rule, word, rule}

-- a rule computes word i from lower-numbered words
pub record Computes (ρ : Rule) (i : ℕ) : Type 0 where
  pub computing : T (uses (kind_of ρ.kind) R)
  pub result : word ρ R ≡ i
  pub below : (p : Place) → T (uses (kind_of ρ.kind) p) → p ≢ R → word ρ p < i

-- word i is the result of a rule over lower-numbered words
pub record Computed (rs : List Rule) (i : ℕ) : Type 0 where
  pub number : ℕ
  pub listed : number < length rs
  pub computes : Computes (rule rs number) i

-- the first m words are inputs: each later word is fixed from the start, or the result of a rule over lower-numbered words
pub record Inputs (rs : List Rule) (t : Table) (m : ℕ) : Type 0 where
  pub follows : (i : ℕ) → m ≤ i → i < length t.lo → ((j : ℕ) → ¬ Open t i j) ⊎ Computed rs i
