-- To be believed: a problem made of a script as lent numbers, one entry after the other, in the form that `Lent` reads: three numbers a word, six bytes a rule.
use Rattle.std.specs.Prelude.{List, [], ◌∷◌, ℕ, length}
use Rattle.lists.specs.Lists.{at, flat}
use Rattle.rules.specs.Tight.{Rule, rule}
use Rattle.scripts.specs.Draft.{Draft}

abbrev pub word_entry : ℕ → ℕ → ℕ → List ℕ
word_entry w lo hi = w ∷ lo ∷ hi ∷ []

abbrev pub rule_entry : Rule → List ℕ
rule_entry ρ = ρ.kind ∷ ρ.r ∷ ρ.a ∷ ρ.b ∷ ρ.s ∷ ρ.k ∷ []

unfoldable pub stored_words : Draft → List ℕ
stored_words d = flat (length d.widths) λ i. word_entry (at d.widths i) (at d.table.lo i) (at d.table.hi i)

unfoldable pub stored_rules : Draft → List ℕ
stored_rules d = flat (length d.rules) λ n. rule_entry (rule d.rules n)
