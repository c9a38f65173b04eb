-- At the places of a proper rule over a proper table stand proper widths and bounds, which fit.
use mathlib.Core.List.{List}
use Prim.Native.Nat.{ℕ, ◌<◌}
use Rattle.words.specs.Table.{Table}
use Rattle.rules.specs.Fits.{Legal}
use Rattle.rules.specs.Tight.{Rule, word, rule, shape, span}
use Rattle.rules.specs.Proper.{Proper}
use Rattle.rules.specs.ProperProblem.{ProperRule, ProperProblem}
use lib.ListN.{length}

pub rule_legal : {w : List ℕ} {t : Table} {ρ : Rule} → Proper w t → ProperRule w ρ → Legal (shape w ρ) (span t ρ)
rule_legal {w} {t} {ρ} ok h = record {
  fitting = h.fit;
  width = λ p u. ok.width (word ρ p) (h.fields.used p u);
  bounded = λ p u. ok.bounded (word ρ p);
}

-- each rule of a proper problem, over any proper table of its words: also a tighter one
pub problem_legal : {w : List ℕ} {t u : Table} {rs : List Rule} → ProperProblem w t rs → Proper w u → (n : ℕ) → n < length rs
    → Legal (shape w (rule rs n)) (span u (rule rs n))
problem_legal h ok n l = rule_legal ok (h.each n l)
