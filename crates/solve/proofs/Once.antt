-- Two results that the promise of `solve` allows are equal: the answer, every number of the model, and every number of work memory.
use mathlib.Core.Path.{◌≡◌, refl, ap}
use mathlib.Core.List.{List}
use Prim.Native.Nat.{ℕ}
use Rattle.checker.proofs.Firsts.{refused_not_ok}
use Rattle.lists.specs.Lists.{at}
use Rattle.rules.specs.Tight.{Tight}
use Rattle.problem.specs.Lent.{widths_of, rules_of}
use Rattle.tighten.proofs.Once.{cleared_once}
use Rattle.search_theory.specs.Search.{Outcome}
use Rattle.search_theory.proofs.Outcomes.{found_not_none, found_not_gave_up, none_not_gave_up}
use Rattle.search_theory.proofs.Unique.{one_outcome}
use Rattle.std.specs.Prelude.{Result}
use Rattle.checker.specs.declared.refusal.Refusal.{Refusal}
use Rattle.solve.specs.declared.Solved.{Solved}
use Rattle.solve.specs.Promise.{Comes, Solving, refused, found_first, found_none, gave_up_at}
use Rattle.solve.proofs.Storing.{stored_once}

pub comes_once : (limit : ℕ) (ws bs : List ℕ) {o o' : Outcome} → Comes limit ws bs o → Comes limit ws bs o' → o ≡ o'
comes_once limit ws bs s s' = one_outcome (Tight (widths_of ws) (rules_of bs)) limit s s'

module _ {limit : ℕ} {ws bs m l : List ℕ} where
  pub solve_once : {x y : Result Solved Refusal} {a b k n : List ℕ} → Solving limit ws bs m l x a k → Solving limit ws bs m l y b n
      → (x ≡ y) × (a ≡ b) × (k ≡ n)
  solve_once (refused a) (refused b) = (cc, refl, refl)
  solve_once (refused a) (found_first g s x c) = absurd (refused_not_ok a g.passed)
  solve_once (refused a) (found_none g s c) = absurd (refused_not_ok a g.passed)
  solve_once (refused a) (gave_up_at g s c) = absurd (refused_not_ok a g.passed)
  solve_once (found_first g s x c) (refused b) = absurd (refused_not_ok b g.passed)
  solve_once (found_first {v = v} g s x c) (found_first {v = v'} g' s' x' c') =
      let e = comes_once limit ws bs s s' in
      let same : v ≡ v' = cc in
      (cc, stored_once (λ i h. ap (λ w. at w i) same) x x', cleared_once c c')
  solve_once (found_first g s x c) (found_none g' s' c') = absurd (found_not_none (comes_once limit ws bs s s'))
  solve_once (found_first g s x c) (gave_up_at g' s' c') = absurd (found_not_gave_up (comes_once limit ws bs s s'))
  solve_once (found_none g s c) (refused b) = absurd (refused_not_ok b g.passed)
  solve_once (found_none g s c) (found_first g' s' x' c') = absurd (found_not_none (comes_once limit ws bs s' s))
  solve_once (found_none g s c) (found_none g' s' c') = let e = comes_once limit ws bs s s' in (cc, refl, cleared_once c c')
  solve_once (found_none g s c) (gave_up_at g' s' c') = absurd (none_not_gave_up (comes_once limit ws bs s s'))
  solve_once (gave_up_at g s c) (refused b) = absurd (refused_not_ok b g.passed)
  solve_once (gave_up_at g s c) (found_first g' s' x' c') = absurd (found_not_gave_up (comes_once limit ws bs s' s))
  solve_once (gave_up_at g s c) (found_none g' s' c') = absurd (none_not_gave_up (comes_once limit ws bs s' s))
  solve_once (gave_up_at g s c) (gave_up_at g' s' c') = (refl, refl, cleared_once c c')
