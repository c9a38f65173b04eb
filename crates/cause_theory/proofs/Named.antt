-- The cause, computed with any solving that is right: every problem has one, at every limit.
use mathlib.Core.List.{List, [], ◌∷◌}
use Prim.Native.Nat.{ℕ, zero, suc, ◌+◌}
use lib.ListN.{length}
use Rattle.words.specs.Table.{Table}
use Rattle.rules.specs.Tight.{Rule}
use Rattle.search_theory.specs.Search.{Outcome, found, none, gave_up}
use Rattle.cause_theory.specs.Cause.{Cause, EXISTS, CAUSE, GAVE_UP, trial, Tried, Trims, decided, spared, needed, unknown, Causes, exists, gives_up}
use Rattle.cause_theory.specs.Cause.{trimmed}

-- what follows a trial: without settings, with settings, or given up
abbrev pub on_trial : Outcome → (ℕ → Cause) → (ℕ → Cause) → Cause → Cause
on_trial (none d) without some given_up = without d
on_trial (found v d) without some given_up = some d
on_trial gave_up without some given_up = given_up

module _ (solved : List Rule → Outcome) (rs : List Rule) (limit : ℕ) where
  unfoldable pub trims : ℕ → List ℕ → ℕ → Cause
  trims zero kept c = CAUSE kept c
  trims (suc n) kept c =
      on_trial (solved (trial rs n kept)) (λ d. trims n kept (c + d)) (λ d. trims n (n ∷ kept) (c + d)) (GAVE_UP (c + limit))

  unfoldable pub named : Cause
  unfolding trims
  named = on_trial (solved rs) (λ d. trims (length rs) [] d) EXISTS (GAVE_UP limit)

  module _ (w : List ℕ) (t : Table) (right : (xs : List Rule) → Tried w limit t xs (solved xs)) where
    trims_right : (n : ℕ) (kept : List ℕ) (c : ℕ) → Trims w rs limit t n kept c (trims n kept c)
    unfolding trims
    trims_right zero kept c = decided
    trims_right (suc n) kept c = go (solved (trial rs n kept)) (right (trial rs n kept)) (λ k d. trims_right n k (c + d))
      where
        go : (o : Outcome) → Tried w limit t (trial rs n kept) o → ((k : List ℕ) (d : ℕ) → Trims w rs limit t n k (c + d) (trims n k (c + d)))
            → Trims w rs limit t (suc n) kept c (on_trial o (λ d. trims n kept (c + d)) (λ d. trims n (n ∷ kept) (c + d)) (GAVE_UP (c + limit)))
        go (none d) s ih = spared s (ih kept d)
        go (found v d) s ih = needed s (ih (n ∷ kept) d)
        go gave_up s ih = unknown s

    pub named_right : Causes w rs limit t named
    unfolding named
    named_right = go (solved rs) (right rs)
      where
        go : (o : Outcome) → Tried w limit t rs o → Causes w rs limit t (on_trial o (λ d. trims (length rs) [] d) EXISTS (GAVE_UP limit))
        go (none d) s = trimmed s (trims_right (length rs) [] d)
        go (found v d) s = exists s
        go gave_up s = gives_up s
