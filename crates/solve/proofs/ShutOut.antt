-- Solvers that the promise of `solve` shuts out, each by a problem where it does not allow their answer: one that refuses everything, that answers
-- GAVE UP or NONE each time, that leaves the model untouched, that obeys the first rule alone, that invents its count.
use mathlib.Core.Path.{◌≡◌, refl, sym, ap, ◌∙◌}
use mathlib.Core.Logic.{◌≢◌}
use mathlib.Core.List.{List, [], ◌∷◌}
use Prim.Native.Nat.{ℕ, ◌≤◌}
use native.Mathlib.Omega.{arith}
use lib.ListN.{length}
use Rattle.lists.specs.Lists.{at, series}
use Rattle.rules.specs.Kinds.{kind_of}
use Rattle.rules.specs.Tight.{Tight}
use Rattle.rules.proofs.Steps.{tightened}
use Rattle.problem.specs.Lent.{widths_of, table_of, rules_of}
use Rattle.checker.specs.Tests.{sized, are_fields, is_fitting}
use Rattle.checker.specs.Refusal.{refusal_with, refusal, first_of, word_refusal, rule_refusal}
use Rattle.search_theory.specs.Search.{Outcome, found}
use Rattle.search_theory.proofs.Outcomes.{found_not_none, found_not_gave_up}
use Rattle.search_theory.proofs.Unique.{one_outcome}
use Rattle.search_theory.proofs.Solved.{solved, solved_right}
use Rattle.std.specs.Prelude.{Result, Ok, Err}
use Rattle.checker.specs.declared.refusal.Refusal.{Refusal}
use Rattle.solve.specs.declared.Solved.{Solved}
use Rattle.solve.specs.declared.Solved.TheVariants as answer
use Rattle.solve.specs.Promise.{solve_work, Comes, Solving, refused, found_first, found_none, gave_up_at, SolveGiven}
use Rattle.solve.proofs.Calling.{fine, nothing_refused}

-- an outcome of a given problem is the one computed
only : {limit : ℕ} {ws bs m l : List ℕ} → SolveGiven limit ws bs m l → (o : Outcome) → Comes limit ws bs o
    → o ≡ solved (widths_of ws) (rules_of bs) limit (table_of ws)
only {limit} {ws} {bs} g o s =
    one_outcome (Tight (widths_of ws) (rules_of bs)) limit s (solved_right (widths_of ws) (rules_of bs) (table_of ws) (fine g).problem.table limit)

-- ---- board B: one open word of width 1, limit 1; FOUND 0, one guess

abbrev words_b : List ℕ
words_b = 1 ∷ 0 ∷ 1 ∷ []

module _ (l : List ℕ) (room : solve_work ≤ length l) (m : ℕ) where
  given_b : SolveGiven 1 words_b [] (m ∷ []) l
  unfolding refusal_with refusal first_of word_refusal rule_refusal sized are_fields is_fitting
  given_b = nothing_refused 1 words_b [] (m ∷ []) l room (omega arith) refl

  only_b : (o : Outcome) → Comes 1 words_b [] o → o ≡ found (0 ∷ []) 1
  unfolding solved series tightened
  only_b o s = only given_b o s

  pub not_refusing : {r : Refusal} {m' l' : List ℕ} → ¬ Solving 1 words_b [] (m ∷ []) l (Err r) m' l'
  not_refusing (refused e) = let z : ◌≡◌ {A = ℕ} 0 1 = cc (given_b.passed, e) in omega arith

  pub not_giving_up : {g : ℕ} {m' l' : List ℕ} → ¬ Solving 1 words_b [] (m ∷ []) l (Ok (answer.GaveUp g)) m' l'
  not_giving_up (gave_up_at h s c) = found_not_gave_up (sym (only_b _ s))

  pub not_none : {g : ℕ} {m' l' : List ℕ} → ¬ Solving 1 words_b [] (m ∷ []) l (Ok (answer.Nothing g)) m' l'
  not_none (found_none h s c) = found_not_none (sym (only_b _ s))

  pub not_invented : {g : ℕ} {m' l' : List ℕ} → Solving 1 words_b [] (m ∷ []) l (Ok (answer.Found g)) m' l' → g ≡ 1
  not_invented (found_first h s x c) = let e = only_b _ s in cc

-- ---- board G: words 0 and 1 of width 2 open, word 2 fixed 3, word 2 = word 0 + word 1, word 1 at most word 0; FOUND 2, 1, 3

abbrev words_g : List ℕ
words_g = 2 ∷ 0 ∷ 3 ∷ 2 ∷ 0 ∷ 3 ∷ 2 ∷ 3 ∷ 3 ∷ []

abbrev rules_g : List ℕ
rules_g = 6 ∷ 2 ∷ 0 ∷ 1 ∷ 0 ∷ 0 ∷ 12 ∷ 0 ∷ 1 ∷ 0 ∷ 0 ∷ 0 ∷ []

module _ (l : List ℕ) (room : solve_work ≤ length l) (m : List ℕ) (three : length m ≡ 3) where
  given_g : SolveGiven 100 words_g rules_g m l
  unfolding refusal_with refusal first_of word_refusal rule_refusal sized are_fields is_fitting kind_of
  given_g = nothing_refused 100 words_g rules_g m l room (omega arith) refl

  only_g : (o : Outcome) → Comes 100 words_g rules_g o → o ≡ found (2 ∷ 1 ∷ 3 ∷ []) 2
  unfolding solved series tightened kind_of
  only_g o s = only given_g o s

  -- whatever the answer, the model begins with 2
  two_g : {x : Result Solved Refusal} {m' l' : List ℕ} → Solving 100 words_g rules_g m l x m' l' → at m' 0 ≡ 2
  two_g (refused e) = absurd (let z : ◌≡◌ {A = ℕ} 0 1 = cc (given_g.passed, e) in omega arith)
  two_g (found_first {v = v} h s x c) =
      let e = only_g _ s in
      let same : v ≡ 2 ∷ 1 ∷ 3 ∷ [] = cc in
      x.each 0 (omega arith) ∙ ap (λ w. at w 0) same
  two_g (found_none h s c) = absurd (found_not_none (sym (only_g _ s)))
  two_g (gave_up_at h s c) = absurd (found_not_gave_up (sym (only_g _ s)))

  -- a model that does not begin with 2 is not left as it was
  pub not_untouched : at m 0 ≢ 2 → {x : Result Solved Refusal} {l' : List ℕ} → ¬ Solving 100 words_g rules_g m l x m l'
  not_untouched d z = d (two_g z)

  -- the first settings of the first rule alone, 0, 3, 3, are not given
  pub not_first_rule : {x : Result Solved Refusal} {l' : List ℕ} → ¬ Solving 100 words_g rules_g m l x (0 ∷ 3 ∷ 3 ∷ []) l'
  not_first_rule z = omega (arith, two_g z)
