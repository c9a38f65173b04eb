-- What the search promises of a problem: widths w, rules rs, a proper table t. The theorems behind demands 2 and 3.
use mathlib.Core.Path.{◌≡◌}
use mathlib.Core.Logic.{◌≢◌, ◌⊎◌, inl, inr, ◌↔◌}
use mathlib.Core.List.{List}
use Prim.Native.Nat.{ℕ, suc, ◌^◌, ◌≤◌, ◌<◌}
use native.Mathlib.Omega.{arith}
use Rattle.words.specs.Table.{Table}
use Rattle.words.specs.Count.{open_below}
use Rattle.rules.specs.Tight.{Rule, Tight, AllHold, RulesIn}
use Rattle.rules.specs.Proper.{Proper}
use Rattle.rules.specs.Tightening.{Widest, Conflict}
use Rattle.rules.specs.Inputs.{Inputs}
use Rattle.rules.proofs.Agree.{tight_agree}
use Rattle.rules.proofs.Propers.{proper_inside}
use Rattle.rules.proofs.Steps.{tightened}
use Rattle.rules.proofs.Widest.{every_table}
use Rattle.search_theory.specs.Search.{Outcome, none, gave_up, count, Search, OutcomeRight, AnswerIs, answer_found, answer_none}
use Rattle.search_theory.specs.Guesses.{Guesses}
use Rattle.search_theory.proofs.Unique.{one_outcome}
use Rattle.search_theory.proofs.Right.{right}
use Rattle.search_theory.proofs.Inversion.{at_conflict}
use Rattle.search_theory.proofs.Ceiling.{Within, ceiling, ceiling_answers}
use Rattle.search_theory.proofs.Number.{gave_up_needed, some_number}
use Rattle.search_theory.proofs.Inputs.{inputs_drive, inputs_stay, open_no_more}
use Rattle.search_theory.proofs.Solved.{fits_engine, solved, solved_right}

module _ (w : List ℕ) (rs : List Rule) (t : Table) (proper : Proper w t) where
  -- ---- demand 2

  -- at every limit the search has exactly one outcome
  pub exactly_one : (limit : ℕ) → (o : Outcome) × Search (Tight w rs) limit t 0 o × ((o' : Outcome) → Search (Tight w rs) limit t 0 o' → o' ≡ o)
  exactly_one limit = (
    solved w rs limit t,
    solved_right w rs t proper limit,
    λ o' s. one_outcome (Tight w rs) limit s (solved_right w rs t proper limit),
  )

  -- what is found is the first of the settings; where none is said there are none
  pub outcome_right : (limit : ℕ) (o : Outcome) → Search (Tight w rs) limit t 0 o → OutcomeRight (AllHold w rs) t o
  outcome_right limit o s = right (Tight w rs) (AllHold w rs) (tight_agree w rs) s

  -- there is a number G, which decides at every limit
  pub number : (G : ℕ) × Guesses (Tight w rs) (AllHold w rs) t G
  number = some_number (Tight w rs) (Proper w) (tightened w rs) (fits_engine w rs) t proper (AllHold w rs) (tight_agree w rs)

  -- GAVE UP at L just where the search at L + 1 makes L + 1 guesses
  pub gave_up_just : (L : ℕ) → Search (Tight w rs) L t 0 gave_up ↔ ((o : Outcome) × Search (Tight w rs) (suc L) t 0 o × (count (suc L) o ≡ suc L))
  gave_up_just L = gave_up_needed (Tight w rs) (Proper w) (tightened w rs) (fits_engine w rs) t proper L

  -- ---- demand 3

  -- a first conflict has no guess
  pub conflict_no_guess : (limit : ℕ) (o : Outcome) → Conflict (Tight w rs) t → Search (Tight w rs) limit t 0 o → o ≡ none 0
  conflict_no_guess limit o c s = at_conflict (Tight w rs) limit c s

  module _ (m : ℕ) (inputs : Inputs rs t m) (u : Table) (tight : Widest (Tight w rs) t u) where
    -- at most 2^B - 1 guesses, B being the open bits of the first m words after the first tightening
    pub count_below : (limit n : ℕ) (o : Outcome) → Search (Tight w rs) limit t 0 o → AnswerIs o n → n < 2 ^ open_below m u
    count_below limit n o s a = go a (ceiling (Tight w rs) limit m t (inputs_drive w rs t m inputs) (proper_inside proper) tight s)
      where
        go : {x : Outcome} → AnswerIs x n → Within limit 0 (open_below m u) x → n < 2 ^ open_below m u
        go answer_found r = omega arith
        go answer_none r = omega arith

    -- a limit that reaches it never gives up
    pub limit_reached : (limit : ℕ) (o : Outcome) → 2 ^ open_below m u ≤ suc limit → Search (Tight w rs) limit t 0 o → o ≢ gave_up
    limit_reached limit o l s = ceiling_answers (Tight w rs) limit m t (inputs_drive w rs t m inputs) (proper_inside proper) tight l s

    -- with rules added the first tightening conflicts, or there is a tight table with no more open bits in the first m words, which still are inputs
    pub more_rules : (rs' : List Rule) → RulesIn rs rs'
        → Inputs rs' t m × (Conflict (Tight w rs') t ⊎ ((u' : Table) × Widest (Tight w rs') t u' × (open_below m u' ≤ open_below m u)))
    more_rules rs' e = (inputs_stay e inputs, go (every_table w rs' t proper))
      where
        go : ((u' : Table) × Widest (Tight w rs') t u') ⊎ Conflict (Tight w rs') t
            → Conflict (Tight w rs') t ⊎ ((u' : Table) × Widest (Tight w rs') t u' × (open_below m u' ≤ open_below m u))
        go (inl (u', x)) = inr (u', x, open_no_more e tight x m)
        go (inr c) = inl c
