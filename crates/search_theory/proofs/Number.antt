-- Each problem has one number G, at any limit the search has exactly one outcome, and GAVE UP means that one more guess was needed.
-- For any tightening that is right.
use mathlib.Core.Path.{◌≡◌, refl, sym, ◌∙◌}
use mathlib.Core.Logic.{◌≢◌, ◌↔◌, ◌⊎◌, inl, inr}
use mathlib.Core.List.{List}
use Prim.Native.Nat.{ℕ, suc, ◌^◌, ◌≤◌, ◌<◌}
use native.Mathlib.Nat.{le_refl, le_antisymm}
use native.Mathlib.Omega.{arith}
use native.Mathlib.Decide.{dec_le}
use lib.ListN.{length}
use lib.Pow.{pow_mono}
use Rattle.words.specs.Table.{Table}
use Rattle.words.specs.Count.{open_below}
use Rattle.words.proofs.Tables.{in_reach}
use Rattle.words.proofs.Falls.{open_less}
use Rattle.rules.specs.Tightening.{Tightened, TIGHT, CONFLICT, Tightens}
use Rattle.rules.proofs.Agree.{Agree}
use Rattle.search_theory.specs.Search.{Outcome, found, none, gave_up, count, Search, AnswerIs, answer_found, answer_none}
use Rattle.search_theory.specs.Guesses.{Answers, answers_found, answers_none, Guesses}
use Rattle.search_theory.proofs.Unique.{one_outcome}
use Rattle.search_theory.proofs.Right.{right}
use Rattle.search_theory.proofs.Inversion.{at_conflict}
use Rattle.search_theory.proofs.Limit.{answer_not, count_limit, limit_free}
use Rattle.search_theory.proofs.Ceiling.{Driven, ceiling_answers}
use Rattle.search_theory.proofs.Run.{Engine, run, run_right}

-- an outcome is an answer with its count, or gave up
pub answered : (o : Outcome) → ((n : ℕ) × AnswerIs o n) ⊎ (o ≡ gave_up)
answered (found v n) = inl (n, answer_found)
answered (none n) = inl (n, answer_none)
answered gave_up = inr refl

answer_count : {o : Outcome} {n : ℕ} (limit : ℕ) → AnswerIs o n → count limit o ≡ n
answer_count limit answer_found = refl
answer_count limit answer_none = refl

module _ (Tight Ok : Table → Type 0) (tightened : Table → Tightened) (engine : Engine Tight Ok tightened) (t : Table) (ok : Ok t) where
  -- at every limit there is an outcome
  pub some_outcome : (limit : ℕ) → (o : Outcome) × Search Tight limit t 0 o
  some_outcome limit =
      let n = length t.lo in
      (run tightened limit (suc (open_below n t)) t 0, run_right Tight Ok tightened engine limit n (suc (open_below n t)) t 0 ok (le_refl n) (le_refl _))

  -- an answer at some limit, with count n: at a limit below n the search gives up
  fewer_gives_up : {limit limit' n : ℕ} {o : Outcome} → Search Tight limit t 0 o → AnswerIs o n → limit' < n → Search Tight limit' t 0 gave_up
  fewer_gives_up {limit} {limit'} {n} {o} s a l = go (some_outcome limit')
    where
      other : (o' : Outcome) (m : ℕ) → Search Tight limit' t 0 o' → AnswerIs o' m → ⊥
      other o' m s' a' =
          let k : m ≤ limit' = count_limit s' a' (omega arith) in
          let e : o' ≡ o = one_outcome Tight limit (limit_free s' a' (omega (arith, count_limit s a (omega arith)))) s in
          let c : count 0 o' ≡ m = answer_count 0 a' in
          let d : count 0 o ≡ n = answer_count 0 a in
          let f : count 0 o' ≡ count 0 o = cc in
          omega arith

      go : (x : (o : Outcome) × Search Tight limit' t 0 o) → Search Tight limit' t 0 gave_up
      go (o', s') = by (answered o')
        where
          by : ((m : ℕ) × AnswerIs o' m) ⊎ (o' ≡ gave_up) → Search Tight limit' t 0 gave_up
          by (inl (m, a')) = absurd (other o' m s' a')
          by (inr e) = rw e at s'

  -- GAVE UP at L says just that the search with one guess more makes L + 1 guesses
  pub gave_up_needed : (L : ℕ) → Search Tight L t 0 gave_up ↔ ((o : Outcome) × Search Tight (suc L) t 0 o × (count (suc L) o ≡ suc L))
  gave_up_needed L = (λ s. more s (some_outcome (suc L)), λ x. less x (some_outcome L))
    where
      more : Search Tight L t 0 gave_up → ((o : Outcome) × Search Tight (suc L) t 0 o) → (o : Outcome) × Search Tight (suc L) t 0 o × (count (suc L) o ≡ suc L)
      more s (o, s') = (o, s', by (answered o))
        where
          by : ((n : ℕ) × AnswerIs o n) ⊎ (o ≡ gave_up) → count (suc L) o ≡ suc L
          by (inl (n, a)) = at_most (dec_le n L)
            where
              at_most : Dec (n ≤ L) → count (suc L) o ≡ suc L
              at_most (yes l) = absurd (answer_not a (one_outcome Tight L (limit_free s' a l) s))
              at_most (no h) = omega (arith, answer_count (suc L) a, count_limit s' a (omega arith))
          by (inr e) = rw e

      less : ((o : Outcome) × Search Tight (suc L) t 0 o × (count (suc L) o ≡ suc L)) → ((o : Outcome) × Search Tight L t 0 o) → Search Tight L t 0 gave_up
      less (o, s, e) (o', s') = by (answered o')
        where
          by : ((n : ℕ) × AnswerIs o' n) ⊎ (o' ≡ gave_up) → Search Tight L t 0 gave_up
          by (inl (n, a)) =
              let l : n ≤ L = count_limit s' a (omega arith) in
              let same : o' ≡ o = one_outcome Tight (suc L) (limit_free s' a (omega arith)) s in
              let c : count (suc L) o' ≡ n = answer_count (suc L) a in
              let f : count (suc L) o' ≡ count (suc L) o = cc in
              absurd (omega arith)
          by (inr d) = rw d at s'

  -- the guess falls on a word of the table
  all_driven : Driven Tight t (length t.lo)
  all_driven = record { drives = λ u i j tu p g. omega (arith, in_reach u.hi i j g.here.on, p.his) }

  -- so many guesses that none is missing
  most : ℕ
  most = 2 ^ open_below (length t.lo) t

  most_answers : (o : Outcome) → Search Tight most t 0 o → o ≢ gave_up
  unfolding most
  most_answers o s = go (tightened t) (engine.right t ok)
    where
      go : (x : Tightened) → Tightens Tight t x → o ≢ gave_up
      go (TIGHT u) w =
          ceiling_answers Tight most (length t.lo) t all_driven (engine.whole t ok) w
          (omega (arith, pow_mono (open_less (engine.whole t ok) w.inside (length t.lo)))) s
      go CONFLICT c = λ e. answer_not (answer_none {n = 0}) (sym (at_conflict Tight most c s) ∙ e)

  module _ (Holds : List ℕ → Type 0) (agree : Agree Tight Holds) where
    right_answers : {limit n : ℕ} {o : Outcome} → Search Tight limit t 0 o → AnswerIs o n → Answers Holds t n o
    right_answers s answer_found = answers_found (right Tight Holds agree s)
    right_answers s answer_none = answers_none (right Tight Holds agree s)

    -- each problem has a number G
    pub some_number : (G : ℕ) × Guesses Tight Holds t G
    some_number = go (some_outcome most)
      where
        go : (x : (o : Outcome) × Search Tight most t 0 o) → (G : ℕ) × Guesses Tight Holds t G
        go (o, s) = by (answered o)
          where
            by : ((n : ℕ) × AnswerIs o n) ⊎ (o ≡ gave_up) → (G : ℕ) × Guesses Tight Holds t G
            by (inl (n, a)) = (
              n,
              record {
                outcome = o;
                answers = right_answers s a;
                enough = λ limit l. limit_free s a l;
                fewer = λ limit l. fewer_gives_up s a l;
              },
            )
            by (inr e) = absurd (most_answers o s e)

-- and it is one
pub one_number : {Tight : Table → Type 0} {Holds : List ℕ → Type 0} {t : Table} {G G' : ℕ} → Guesses Tight Holds t G → Guesses Tight Holds t G' → G ≡ G'
one_number {Tight} {Holds} {t} {G} {G'} x y = le_antisymm (at_most x y) (at_most y x)
  where
    not_gave_up : {n : ℕ} {o : Outcome} → Answers Holds t n o → o ≢ gave_up
    not_gave_up (answers_found f) e = answer_not answer_found e
    not_gave_up (answers_none f) e = answer_not answer_none e

    at_most : {m n : ℕ} → Guesses Tight Holds t m → Guesses Tight Holds t n → m ≤ n
    at_most {m} {n} p q = go (dec_le m n)
      where
        go : Dec (m ≤ n) → m ≤ n
        go (yes l) = l
        go (no h) = absurd (not_gave_up q.answers (one_outcome Tight n (q.enough n (le_refl n)) (p.fewer n (omega arith))))
