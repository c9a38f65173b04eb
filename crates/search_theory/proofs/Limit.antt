-- The limit decides between an answer and giving up, and nothing else: an answer has one count at every limit that reaches it.
use mathlib.Core.Logic.{◌≢◌}
use Prim.Native.Nat.{ℕ, ◌≤◌}
use native.Mathlib.Nat.{le_refl, le_trans}
use native.Mathlib.Omega.{arith}
use Rattle.words.specs.Table.{Table}
use Rattle.search_theory.specs.Search.{Outcome, gave_up, Search, conflict, settled, stopped, first, second, AnswerIs, answer_found, answer_none}
use Rattle.search_theory.proofs.Outcomes.{found_not_gave_up, none_not_gave_up}

pub answer_not : {o : Outcome} {n : ℕ} → AnswerIs o n → o ≢ gave_up
answer_not answer_found e = found_not_gave_up e
answer_not answer_none e = none_not_gave_up e

module _ {Tight : Table → Type 0} where
  -- guesses are only added
  pub count_grows : {limit : ℕ} {t : Table} {g : ℕ} {o : Outcome} {n : ℕ} → Search Tight limit t g o → AnswerIs o n → g ≤ n
  count_grows (conflict c) answer_none = le_refl _
  count_grows (settled w d) answer_found = le_refl _
  count_grows (stopped w h l) a = elim a [ ]
  count_grows (first w h l s e) a = omega (arith, count_grows s a)
  count_grows (second w h l s r) a = omega (arith, count_grows s answer_none, count_grows r a)

  -- and never over the limit
  pub count_limit : {limit : ℕ} {t : Table} {g : ℕ} {o : Outcome} {n : ℕ} → Search Tight limit t g o → AnswerIs o n → g ≤ limit → n ≤ limit
  count_limit (conflict c) answer_none l = l
  count_limit (settled w d) answer_found l = l
  count_limit (stopped w h k) a l = elim a [ ]
  count_limit (first w h k s e) a l = count_limit s a k
  count_limit (second w h k s r) a l = count_limit r a (count_limit s answer_none k)

  -- any limit that reaches the count gives the same answer
  pub limit_free : {limit limit' : ℕ} {t : Table} {g : ℕ} {o : Outcome} {n : ℕ} → Search Tight limit t g o → AnswerIs o n → n ≤ limit'
      → Search Tight limit' t g o
  limit_free (conflict c) a l = conflict c
  limit_free (settled w d) a l = settled w d
  limit_free (stopped w h k) a l = elim a [ ]
  limit_free (first w h k s e) a l = first w h (le_trans (count_grows s a) l) (limit_free s a l) e
  limit_free (second w h k s r) a l =
      second w h (le_trans (count_grows s answer_none) (le_trans (count_grows r a) l))
      (limit_free s answer_none (le_trans (count_grows r a) l)) (limit_free r a l)
