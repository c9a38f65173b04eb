-- The user's demands, as theorems about the call `solve` itself: whatever it promises of an answer x, a model and work memory.
use mathlib.Core.Path.{◌≡◌, refl, sym, ap, subst, ◌∙◌}
use mathlib.Core.List.{List}
use Prim.Native.Nat.{ℕ, suc, ◌≤◌, ◌<◌}
use native.Mathlib.Omega.{arith}
use native.Mathlib.Decide.{dec_le}
use lib.ListN.{length, take, length-take}
use lib.Seq.{ext_get_or, get_or-take}
use Rattle.words.specs.Table.{Table}
use Rattle.lists.specs.Lists.{at}
use Rattle.rules.specs.Proper.{Proper}
use Rattle.rules.specs.Tightening.{Widest, Conflict}
use Rattle.std.specs.Prelude.{Result, Ok, Err}
use Rattle.checker.specs.declared.refusal.Refusal.{Refusal}
use Rattle.problem.specs.Lent.{word_count, widths_of, table_of, rules_of, lo_at}
use Rattle.lists.proofs.Series.{length_series}
use Rattle.tighten.specs.Memory.{Cleared}
use Rattle.search_theory.specs.Settings.{First, Without}
use Rattle.search_theory.specs.Search.{Outcome, found, none, gave_up, count, answer_found, answer_none}
use Rattle.search_theory.specs.Guesses.{Answers, answers_found, answers_none, Guesses}
use Rattle.search_theory.specs.Ceiling.{Ceiling}
use Rattle.search_theory.proofs.Outcomes.{found_not_none, none_not_gave_up}
use Rattle.search_theory.proofs.Problem.{outcome_right, gave_up_just, conflict_no_guess}
use Rattle.search_theory.proofs.TheCeiling.{count_ceiling, ceiling_reached}
use Rattle.solve.specs.declared.Solved.{Solved}
use Rattle.solve.specs.declared.Solved.TheVariants as answer
use Rattle.solve.specs.Promise.{solve_refusal, Comes, Solving, refused, found_first, found_none, gave_up_at, Answered, reached_found, reached_none}
use Rattle.solve.specs.Promise.{Holding, Tightly, not_reached, SolveGiven}
use Rattle.solve.proofs.Calling.{model_room, fine}
use Rattle.solve.proofs.Once.{comes_once}

-- what is answered where an outcome is come to
abbrev answer_to : ℕ → Outcome → Result Solved Refusal
answer_to limit (found v g) = Ok (answer.Found g)
answer_to limit (none g) = Ok (answer.Nothing g)
answer_to limit gave_up = Ok (answer.GaveUp limit)

module _ {limit : ℕ} {ws bs m l : List ℕ} where
  -- ---- demand 1

  -- a refusal is the first one of the list, with its place, and alters nothing
  pub refusal_exact : {r : Refusal} {m' l' : List ℕ} → Solving limit ws bs m l (Err r) m' l'
      → (solve_refusal limit ws bs m l ≡ Err r) × (m' ≡ m) × (l' ≡ l)
  refusal_exact (refused e) = (e, refl, refl)

  -- after every other answer work memory is all 0
  pub work_cleared : {x : Result Solved Refusal} {m' l' : List ℕ} → SolveGiven limit ws bs m l → Solving limit ws bs m l x m' l' → Cleared l l'
  work_cleared g (refused e) = absurd (let z : ◌≡◌ {A = ℕ} 0 1 = cc (g.passed, e) in omega arith)
  work_cleared g (found_first h s x c) = c
  work_cleared g (found_none h s c) = c
  work_cleared g (gave_up_at h s c) = c

  -- ---- demand 2

  proper : SolveGiven limit ws bs m l → Proper (widths_of ws) (table_of ws)
  proper g = (fine g).problem.table

  no_guess : SolveGiven limit ws bs m l → Conflict (Tightly ws bs) (table_of ws) → {o : Outcome} → Comes limit ws bs o → o ≡ none 0
  no_guess g k {o} s = conflict_no_guess (widths_of ws) (rules_of bs) (table_of ws) (proper g) limit o k s

  -- the first numbers of the model are the first settings in word order
  pub found_right : {g : ℕ} {m' l' : List ℕ} → Solving limit ws bs m l (Ok (answer.Found g)) m' l'
      → First (Holding ws bs) (table_of ws) (take (word_count ws) m')
  found_right {g} {m'} (found_first {v = v} h s x c) = subst (First (Holding ws bs) (table_of ws)) (sym same) first
    where
      first : First (Holding ws bs) (table_of ws) v
      first = outcome_right (widths_of ws) (rules_of bs) (table_of ws) (proper h) limit _ s

      size : length v ≡ word_count ws
      size = first.settings.keeps.size ∙ length_series (word_count ws) (lo_at ws)

      long : length (take (word_count ws) m') ≡ word_count ws
      long = simp length-take (omega (arith, x.size, model_room h))

      same : take (word_count ws) m' ≡ v
      same =
          ext_get_or 0 (take (word_count ws) m') v (long ∙ sym size)
          (λ i k. let less : i < word_count ws = rw long at k in get_or-take (word_count ws) m' i 0 less ∙ x.each i less)

  -- NONE: there are no settings
  pub none_right : {g : ℕ} {m' l' : List ℕ} → Solving limit ws bs m l (Ok (answer.Nothing g)) m' l' → Without (Holding ws bs) (table_of ws)
  none_right (found_none h s c) = outcome_right (widths_of ws) (rules_of bs) (table_of ws) (proper h) limit _ s

  -- the model stays but after FOUND, and then changes in its first numbers only
  pub model_kept : {x : Result Solved Refusal} {m' l' : List ℕ} → Solving limit ws bs m l x m' l' → (i : ℕ) → word_count ws ≤ i → at m' i ≡ at m i
  model_kept (refused e) i k = refl
  model_kept (found_first h s x c) i k = x.rest i k
  model_kept (found_none h s c) i k = refl
  model_kept (gave_up_at h s c) i k = refl

  outcome : {x : Result Solved Refusal} {m' l' : List ℕ} → SolveGiven limit ws bs m l → Solving limit ws bs m l x m' l'
      → (o : Outcome) × Comes limit ws bs o × (x ≡ answer_to limit o)
  outcome g (refused e) = absurd (let z : ◌≡◌ {A = ℕ} 0 1 = cc (g.passed, e) in omega arith)
  outcome g (found_first h s x c) = (found _ _, s, refl)
  outcome g (found_none h s c) = (none _, s, refl)
  outcome g (gave_up_at h s c) = (gave_up, s, refl)

  -- the answer by the problem's number G
  pub solve_answers : {x : Result Solved Refusal} {m' l' : List ℕ} (G : ℕ) → Guesses (Tightly ws bs) (Holding ws bs) (table_of ws) G
      → SolveGiven limit ws bs m l → Solving limit ws bs m l x m' l' → Answered limit G ws bs x
  solve_answers {x} {m'} {l'} G q g z = go (dec_le G limit)
    where
      said : (o : Outcome) → Comes limit ws bs o → x ≡ answer_to limit o
      said o s = let (o', s', e) = outcome g z in e ∙ ap (answer_to limit) (comes_once limit ws bs s' s)

      reached : {o : Outcome} → G ≤ limit → Answers (Holding ws bs) (table_of ws) G o → x ≡ answer_to limit o → Answered limit G ws bs x
      reached h (answers_found f) e = rw e (reached_found h f)
      reached h (answers_none w) e = rw e (reached_none h w)

      go : Dec (G ≤ limit) → Answered limit G ws bs x
      go (yes h) = reached h q.answers (said q.outcome (q.enough limit h))
      go (no h) = let less : limit < G = omega arith in rw (said gave_up (q.fewer limit less)) (not_reached less)

  -- GAVE UP: its count is the limit, and the search with one guess more makes that guess
  pub gave_up_right : {g : ℕ} {m' l' : List ℕ} → Solving limit ws bs m l (Ok (answer.GaveUp g)) m' l'
      → (g ≡ limit) × ((o : Outcome) × Comes (suc limit) ws bs o × (count (suc limit) o ≡ suc limit))
  gave_up_right (gave_up_at h s c) = (refl, (gave_up_just (widths_of ws) (rules_of bs) (table_of ws) (proper h) limit).0 s)

  -- ---- demand 3

  -- where the first tightening conflicts there is no guess
  pub conflict_none : {x : Result Solved Refusal} {m' l' : List ℕ} → SolveGiven limit ws bs m l → Conflict (Tightly ws bs) (table_of ws)
      → Solving limit ws bs m l x m' l' → x ≡ Ok (answer.Nothing 0)
  conflict_none g k (refused e) = absurd (let z : ◌≡◌ {A = ℕ} 0 1 = cc (g.passed, e) in omega arith)
  conflict_none g k (found_first h s x c) = absurd (found_not_none (no_guess g k s))
  conflict_none g k (found_none h s c) = let e = no_guess g k s in cc
  conflict_none g k (gave_up_at h s c) = absurd (none_not_gave_up (sym (no_guess g k s)))

  module _ (u : Table) (tight : Widest (Tightly ws bs) (table_of ws) u) (c : ℕ) (ceiling : Ceiling (rules_of bs) (table_of ws) u c) where
    -- the count is at most the ceiling
    pub found_count : {g : ℕ} {m' l' : List ℕ} → Solving limit ws bs m l (Ok (answer.Found g)) m' l' → g ≤ c
    found_count (found_first h s x k) =
        count_ceiling (widths_of ws) (rules_of bs) (table_of ws) (proper h) u tight c ceiling limit _ _ s answer_found

    pub none_count : {g : ℕ} {m' l' : List ℕ} → Solving limit ws bs m l (Ok (answer.Nothing g)) m' l' → g ≤ c
    none_count (found_none h s k) =
        count_ceiling (widths_of ws) (rules_of bs) (table_of ws) (proper h) u tight c ceiling limit _ _ s answer_none

    -- a limit that reaches it never gives up
    pub never_gives_up : {g : ℕ} {m' l' : List ℕ} → c ≤ limit → ¬ Solving limit ws bs m l (Ok (answer.GaveUp g)) m' l'
    never_gives_up q (gave_up_at h s k) =
        ceiling_reached (widths_of ws) (rules_of bs) (table_of ws) (proper h) u tight c ceiling limit gave_up q s refl
