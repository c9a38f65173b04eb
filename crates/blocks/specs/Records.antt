-- To be believed: word records and rule records: the bytes of the lent numbers that stand for a word or a rule.
use Rattle.std.specs.Prelude.{ℕ, List, ◌∷◌, ◌++◌}
use Rattle.rules.specs.Tight.{Rule}
use Rattle.problem.specs.Lent.{width_at, lo_at, hi_at, rule_at}
use Rattle.blocks.specs.Bytes.{le}
use Rattle.lists.specs.Lists.{zeros}

-- width, seven zeros, lo (8), hi (8)
unfoldable pub word_bytes : ℕ → ℕ → ℕ → List ℕ
word_bytes w lo hi = w ∷ zeros 7 ++ (le 8 lo ++ le 8 hi)

-- kind, r, a, b, s, k, two zeros
unfoldable pub rule_bytes : Rule → List ℕ
rule_bytes ρ = ρ.kind ∷ ρ.r ∷ ρ.a ∷ ρ.b ∷ ρ.s ∷ ρ.k ∷ zeros 2

-- word i of the lent words, and rule n of the lent rules
unfoldable pub word_record : List ℕ → ℕ → List ℕ
word_record ws i = word_bytes (width_at ws i) (lo_at ws i) (hi_at ws i)

unfoldable pub rule_record : List ℕ → ℕ → List ℕ
rule_record bs n = rule_bytes (rule_at bs n)
