-- To be believed: a row of the table of boards, and what it says.
use Rattle.std.specs.Prelude.{◌≡◌, List, [], ◌∷◌, ℕ, ◌<◌, T, length, drop, Ok}
use Rattle.words.specs.Table.{Table, Open}
use Rattle.lists.specs.Lists.{at}
use Rattle.rules.specs.Kinds.{Place, kind_of}
use Rattle.rules.specs.Rows.{uses}
use Rattle.rules.specs.Tight.{Rule, rule, word, shape, span, Tight}
use Rattle.rules.specs.Tightening.{Widest}
use Rattle.checker.specs.Refusal.{Checked, refusal, refusal_with}
use Rattle.search_theory.specs.Search.{Outcome, Search}
use Rattle.search_theory.specs.Ceiling.{Ceiling}
use Rattle.reason_theory.specs.Says.{Answer}
use Rattle.reason_theory.specs.Reason.{Explains}
use Rattle.cause_theory.specs.Cause.{Cause, Causes}
use Rattle.blocks.specs.Edition.{edition1}
use Rattle.blocks.specs.Written.{encode}

pub record Problem : Type 0 where
  pub widths : List ℕ
  pub lo : List ℕ
  pub hi : List ℕ
  pub rules : List Rule

abbrev pub table : Problem → Table
table p = record { lo = p.lo; hi = p.hi }

-- the numbers of words, three a word, and the bytes of rules, six a rule, as they are lent to a call
abbrev pub lent_words : List ℕ → List ℕ → List ℕ → List ℕ
lent_words [] lo hi = []
lent_words (w ∷ ws) lo hi = w ∷ at lo 0 ∷ at hi 0 ∷ lent_words ws (drop 1 lo) (drop 1 hi)

abbrev pub lent_rules : List Rule → List ℕ
lent_rules [] = []
lent_rules (ρ ∷ rs) = ρ.kind ∷ ρ.r ∷ ρ.a ∷ ρ.b ∷ ρ.s ∷ ρ.k ∷ lent_rules rs

-- the bytes of a problem's file
abbrev pub bytes_of : Problem → ℕ → List ℕ
bytes_of p limit = encode edition1 limit (lent_words p.widths p.lo p.hi) (lent_rules p.rules)

pub data Row : Type 0 where
  -- solved with a limit: the answer with its count and settings
  solve : Problem → ℕ → Outcome → Row
  -- the ceiling, after a first tightening that does not conflict
  ceiling : Problem → ℕ → Row
  -- a rule by its number, a place and a bit explained: the answer and its reason
  explain : Problem → ℕ → Place → ℕ → Answer → List ℕ → Row
  -- the cause asked with a limit
  cause : Problem → ℕ → Cause → Row
  -- the file of the problem with a limit, byte by byte
  file : Problem → ℕ → List ℕ → Row

-- what a row says, in the words of the definitions
abbrev pub Follows : Row → Type 0
Follows (solve p limit o) = Search (Tight p.widths p.rules) limit (table p) 0 o
Follows (ceiling p c) = (u : Table) × Widest (Tight p.widths p.rules) (table p) u × Ceiling p.rules (table p) u c
Follows (explain p n q j x out) = Explains (shape p.widths (rule p.rules n)) (span (table p) (rule p.rules n)) q j x out
Follows (cause p limit x) = Causes p.widths p.rules limit (table p) x
Follows (file p limit f) = f ≡ bytes_of p limit

-- what `check` answers of a problem, with a limit and without one
abbrev pub check_with : Problem → ℕ → Checked
check_with p limit = refusal_with limit (lent_words p.widths p.lo p.hi) (lent_rules p.rules)

abbrev pub check_of : Problem → Checked
check_of p = refusal (lent_words p.widths p.lo p.hi) (lent_rules p.rules)

-- there is a rule n, it uses the place, and bit j there is open
pub record AsksOpen (p : Problem) (n : ℕ) (q : Place) (j : ℕ) : Type 0 where
  pub there : n < length p.rules
  pub used : T (uses (kind_of (rule p.rules n).kind) q)
  pub open_bit : Open (table p) (word (rule p.rules n) q) j

-- nothing that a row asks is refused: `check` passes its problem, and a question is about an open bit
abbrev pub Checks : Row → Type 0
Checks (solve p limit o) = check_with p limit ≡ Ok tt
Checks (ceiling p c) = check_of p ≡ Ok tt
Checks (explain p n q j x out) = (check_of p ≡ Ok tt) × AsksOpen p n q j
Checks (cause p limit x) = check_with p limit ≡ Ok tt
Checks (file p limit f) = check_with p limit ≡ Ok tt
