-- The trials for a cause: each has its own ceiling, a limit that reaches all of them never gives up, and the sum is at most their sum.
use mathlib.Core.Path.{◌≡◌, refl, sym, ap, ◌∙◌}
use mathlib.Core.Logic.{◌≢◌, ◌⊎◌, inl, inr}
use mathlib.Core.List.{List}
use Prim.Native.Nat.{ℕ, ◌+◌, ◌≤◌}
use native.Mathlib.Omega.{arith}
use Rattle.cause_theory.specs.Trials.{trials, searches, sum_over, SearchCeiling, tightens, conflicts}
use Rattle.words.specs.Table.{Table}
use Rattle.rules.specs.Tight.{Rule, Tight}
use Rattle.rules.specs.Proper.{Proper}
use Rattle.rules.specs.Tightening.{Widest, Conflict}
use Rattle.lists.specs.Every.{All}
use Rattle.rules.proofs.Widest.{every_table}
use Rattle.search_theory.specs.Search.{Outcome, none, gave_up, AnswerIs, answer_found, answer_none}
use Rattle.search_theory.proofs.Outcomes.{found_not_none, none_not_gave_up}
use Rattle.search_theory.proofs.Inversion.{at_conflict}
use Rattle.search_theory.proofs.TheCeiling.{some_ceiling, count_ceiling, ceiling_reached}
use Rattle.cause_theory.specs.Cause.{Cause, CAUSE, GAVE_UP, trial, Tried, Trims, decided, spared, needed, unknown, Causes, exists, gives_up, trimmed}
use Rattle.cause_theory.specs.Cause.{sum_of}

-- ---- one search: the ceiling of its own rules, and 0 where its table conflicts

module _ (w : List ℕ) (t : Table) (proper : Proper w t) (xs : List Rule) where
  pub some_search_ceiling : (c : ℕ) × SearchCeiling w t xs c
  some_search_ceiling = go (every_table w xs t proper)
    where
      go : ((u : Table) × Widest (Tight w xs) t u) ⊎ Conflict (Tight w xs) t → (c : ℕ) × SearchCeiling w t xs c
      go (inl (u, h)) = let (c, p) = some_ceiling w xs t proper u in (c, tightens h p)
      go (inr c) = (0, conflicts c)

  pub tried_count : {limit n c : ℕ} {o : Outcome} → SearchCeiling w t xs c → Tried w limit t xs o → AnswerIs o n → n ≤ c
  tried_count {limit} {n} {o = o} (tightens {u = u} h p) s a = count_ceiling w xs t proper u h _ p limit n o s a
  tried_count {limit} {n} (conflicts c) s a = zero_count a (at_conflict (Tight w xs) limit c s)
    where
      zero_count : {o : Outcome} → AnswerIs o n → o ≡ none 0 → n ≤ 0
      zero_count answer_found e = absurd (found_not_none e)
      zero_count answer_none e = let z : n ≡ 0 = cc in omega arith

  pub tried_answers : {limit c : ℕ} {o : Outcome} → SearchCeiling w t xs c → c ≤ limit → Tried w limit t xs o → o ≢ gave_up
  tried_answers {limit} {o = o} (tightens {u = u} h p) l s = ceiling_reached w xs t proper u h _ p limit o l s
  tried_answers {limit} (conflicts c) l s = λ e. none_not_gave_up (sym (at_conflict (Tight w xs) limit c s) ∙ e)

-- ---- all of them, C being the ceiling of each

module _ {w : List ℕ} {rs : List Rule} {limit : ℕ} {t : Table} (proper : Proper w t) (C : List Rule → ℕ) (ceil : (xs : List Rule)
    → SearchCeiling w t xs (C xs)) where
  trials_sum : {n c : ℕ} {kept : List ℕ} {x : Cause} (r : Trims w rs limit t n kept c x) → (d : ℕ) (out : List ℕ) → x ≡ CAUSE out d
      → d ≤ c + sum_over C (trials r)
  unfolding trials
  trials_sum decided d out e = let z = ap sum_of e in omega arith
  trials_sum (spared {n = n} {kept = kept} s r) d out e =
      omega (arith, trials_sum r d out e, tried_count w t proper (trial rs n kept) (ceil (trial rs n kept)) s answer_none)
  trials_sum (needed {n = n} {kept = kept} s r) d out e =
      omega (arith, trials_sum r d out e, tried_count w t proper (trial rs n kept) (ceil (trial rs n kept)) s answer_found)
  trials_sum (unknown s) d out e = let z : ◌≡◌ {A = ℕ} 0 1 = cc in absurd (omega arith)

  -- the count of a cause is at most the sum of the ceilings of its searches
  pub sum_ceilings : {d : ℕ} {out : List ℕ} (x : Causes w rs limit t (CAUSE out d)) → d ≤ sum_over C (searches x)
  unfolding searches
  sum_ceilings {d} {out} (trimmed s r) = omega (arith, trials_sum r d out refl, tried_count w t proper rs (ceil rs) s answer_none)

  trials_answer : {n c : ℕ} {kept : List ℕ} {x : Cause} (r : Trims w rs limit t n kept c x) → All (λ xs. C xs ≤ limit) (trials r) → (d : ℕ) → x ≢ GAVE_UP d
  unfolding trials
  trials_answer decided h d e = let z : ◌≡◌ {A = ℕ} 0 1 = cc in omega arith
  trials_answer (spared s r) h d e = trials_answer r h.1 d e
  trials_answer (needed s r) h d e = trials_answer r h.1 d e
  trials_answer (unknown {n = n} {kept = kept} s) h d e = tried_answers w t proper (trial rs n kept) (ceil (trial rs n kept)) h.0 s refl

  -- a limit that reaches the ceilings of all searches made never gives up
  pub cause_answers : {x : Cause} (y : Causes w rs limit t x) → All (λ xs. C xs ≤ limit) (searches y) → (d : ℕ) → x ≢ GAVE_UP d
  unfolding searches
  cause_answers (exists s) h d e = let z : ◌≡◌ {A = ℕ} 0 1 = cc in omega arith
  cause_answers (gives_up s) h d e = tried_answers w t proper rs (ceil rs) h.0 s refl
  cause_answers (trimmed s r) h d e = trials_answer r h.1 d e
