-- Two scripts worked by hand through the search: the least values that satisfy one, and that none satisfy the other.
use mathlib.Core.Path.{◌≡◌, refl, subst}
use mathlib.Core.List.{List, [], ◌∷◌}
use Prim.Native.Nat.{ℕ}
use Rattle.search_theory.specs.Search.{Outcome, found, none}
use Rattle.search_theory.proofs.Solved.{solved, solved_right}
use Rattle.scripts.specs.Tree.{declared, constant, bvsub, equals, bvule, bvult, relation, not, Script}
use Rattle.scripts.specs.Sizes.{WellFormed}
use Rattle.scripts.specs.Denotes.{Satisfies, Least}
use Rattle.scripts.specs.Draft.{more_word, more_rule, start}
use Rattle.scripts.specs.Making.{constant_ends, computed_ends, term_ends, assert_ends, asserts_end, problem_made}
use Rattle.scripts.specs.Answers.{ScriptSearch}
use Rattle.scripts.proofs.FormTests.{script_tests}
use Rattle.scripts.proofs.SameSettings.{problem_table}
use Rattle.scripts.proofs.Searched.{script_right}

-- the search of a script's problem, computed from the definitions
abbrev solved_script : Script → ℕ → Outcome
solved_script s limit = solved (problem_made s).widths (problem_made s).rules limit (problem_made s).table

solved_script_lem : (s : Script) → WellFormed s → (limit : ℕ) (o : Outcome) → solved_script s limit ≡ o → ScriptSearch s limit o
solved_script_lem s ok limit o e =
    subst (λ x. ScriptSearch s limit x) e (solved_right (problem_made s).widths (problem_made s).rules (problem_made s).table (problem_table s ok) limit)

-- (declare-const x (_ BitVec 4)) (declare-const y (_ BitVec 4)) (assert (= (bvsub x y) #x3)) (assert (not (bvule x y)))
abbrev difference : Script
difference = record {
  sizes = 4 ∷ 4 ∷ [];
  asserts = relation equals (bvsub (declared 0) (declared 1)) (constant 4 3) ∷ not bvule (declared 0) (declared 1) ∷ [];
}

-- the search finds x = 3, y = 0 with 2 guesses
pub difference_solved : solved_script difference 1000 ≡ found (3 ∷ 0 ∷ 12 ∷ 12 ∷ 3 ∷ 3 ∷ []) 2
unfolding solved problem_made start asserts_end assert_ends term_ends computed_ends constant_ends more_word more_rule
difference_solved = refl

-- so these are the least values that satisfy the script
pub difference_least : Least difference (3 ∷ 0 ∷ [])
difference_least =
    let ok : WellFormed difference = (script_tests difference).0 tt in
    script_right difference ok 1000 (found (3 ∷ 0 ∷ 12 ∷ 12 ∷ 3 ∷ 3 ∷ []) 2) (solved_script_lem difference ok 1000 _ difference_solved)

-- (declare-const x (_ BitVec 2)) (declare-const y (_ BitVec 2)) (assert (bvult x y)) (assert (bvult y x))
abbrev circle : Script
circle = record { sizes = 2 ∷ 2 ∷ []; asserts = relation bvult (declared 0) (declared 1) ∷ relation bvult (declared 1) (declared 0) ∷ [] }

pub circle_solved : solved_script circle 1000 ≡ none 1
unfolding solved problem_made start asserts_end assert_ends term_ends more_rule
circle_solved = refl

pub circle_unsatisfied : (vs : List ℕ) → ¬ Satisfies circle vs
circle_unsatisfied =
    let ok : WellFormed circle = (script_tests circle).0 tt in
    script_right circle ok 1000 (none 1) (solved_script_lem circle ok 1000 _ circle_solved)
