-- Mirrors code: the demands as tests that compute.
use Rattle.std.specs.Prelude.{Bool, true, false, ◌&&◌, ◌||◌, List, ℕ, ◌+◌, ◌%◌, eqb, leb, ltb, length}
use Rattle.rules.specs.Kinds.{Place, R, A, B, S, kind_of}
use Rattle.rules.specs.Rows.{Class, equal_r_a, equal_r_a_b, chosen, part, joined, equal_a_b, class, uses}
use Rattle.rules.specs.Tight.{Rule, word}
use Rattle.rules.specs.ProperProblem.{kinds, uses_k, most_words, most_rules}
use Rattle.problem.specs.Lent.{stride, fields, word_count, width_at, rule_count}

unfoldable pub sized : List ℕ → List ℕ → Bool
sized ws bs = eqb (length ws % stride) 0 && (eqb (length bs % fields) 0 && (leb (word_count ws) most_words && leb (rule_count bs) most_rules))

-- x is 1 to m
abbrev pub one_to : ℕ → ℕ → Bool
one_to m x = leb 1 x && leb x m

abbrev pub is_width : ℕ → Bool
is_width w = one_to 64 w

abbrev pub is_kind : ℕ → Bool
is_kind κ = one_to kinds κ

-- a word field that is used is below the number n of words, one that is not is 0
abbrev pub is_field : Bool → ℕ → ℕ → Bool
is_field true n x = ltb x n
is_field false n x = eqb x 0

unfoldable pub are_fields : ℕ → Rule → Bool
are_fields n ρ =
    is_field (uses (kind_of ρ.kind) R) n ρ.r
    && (is_field (uses (kind_of ρ.kind) A) n ρ.a
    && (is_field (uses (kind_of ρ.kind) B) n ρ.b
    && (is_field (uses (kind_of ρ.kind) S) n ρ.s
    && (uses_k (kind_of ρ.kind) || eqb ρ.k 0))))

-- what a class asks of the widths w of the places, and of k
abbrev pub fits_as : Class → (Place → ℕ) → ℕ → Bool
fits_as equal_r_a w k = eqb (w R) (w A)
fits_as equal_r_a_b w k = eqb (w R) (w A) && eqb (w R) (w B)
fits_as chosen w k = eqb (w R) (w A) && (eqb (w R) (w B) && eqb (w S) 1)
fits_as part w k = leb (k + w R) (w A)
fits_as joined w k = eqb (w R) (w A + w B)
fits_as equal_a_b w k = eqb (w A) (w B)

-- what a rule's kind asks of the widths of its words, and of k
unfoldable pub is_fitting : List ℕ → Rule → Bool
is_fitting ws ρ = fits_as (class (kind_of ρ.kind)) (λ p. width_at ws (word ρ p)) ρ.k
