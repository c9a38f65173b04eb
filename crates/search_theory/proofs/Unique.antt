-- The outcome of a search is one.
use mathlib.Core.Path.{◌≡◌, sym}
use Prim.Native.Nat.{ℕ, suc}
use Rattle.words.specs.Table.{Table, with0, with1}
use Rattle.search_theory.specs.Search.{Outcome, none, Ends, ends_found, ends_gave_up, Search, conflict, settled, stopped, first, second}
use Rattle.search_theory.proofs.Outcomes.{found_not_none, none_not_gave_up}
use Rattle.search_theory.proofs.Inversion.{Branches, branch0, branch1, at_conflict, at_done, at_limit, at_guess}

not_none : {o : Outcome} {n : ℕ} → Ends o → o ≡ none n → ⊥
not_none ends_found e = found_not_none e
not_none ends_gave_up e = none_not_gave_up (sym e)

module _ (Tight : Table → Type 0) (limit : ℕ) where
  pub one_outcome : {t : Table} {g : ℕ} {o o' : Outcome} → Search Tight limit t g o → Search Tight limit t g o' → o ≡ o'
  one_outcome (conflict c) y = sym (at_conflict Tight limit c y)
  one_outcome (settled w d) y = sym (at_done Tight limit w d y)
  one_outcome (stopped w h l) y = sym (at_limit Tight limit w h l y)
  one_outcome {o' = o'} (first {u = u} {g = g} {i = i} {j = j} {o = o} w h l s n) y = go (λ x y₀. one_outcome {o' = x} s y₀) (at_guess Tight limit w h l y)
    where
      go : ((x : Outcome) → Search Tight limit (with0 u i j) (suc g) x → o ≡ x) → Branches Tight limit (with0 u i j) (with1 u i j) g o' → o ≡ o'
      go ih (branch0 y₀ m) = ih o' y₀
      go ih (branch1 k y₀ y₁) = absurd (not_none n (ih (none k) y₀))
  one_outcome {o' = o'} (second {u = u} {g = g} {i = i} {j = j} {n = n} {o = o} w h l s r) y =
      go (λ x y₀. one_outcome {o' = x} s y₀) (λ x y₁. one_outcome {o' = x} r y₁) (at_guess Tight limit w h l y)
    where
      go : ((x : Outcome) → Search Tight limit (with0 u i j) (suc g) x → none n ≡ x) → ((x : Outcome) → Search Tight limit (with1 u i j) n x → o ≡ x)
          → Branches Tight limit (with0 u i j) (with1 u i j) g o' → o ≡ o'
      go ih ih' (branch0 y₀ m) = absurd (not_none m (sym (ih o' y₀)))
      go ih ih' (branch1 k y₀ y₁) =
          let e : n ≡ k = cc (ih (none k) y₀) in
          ih' o' (rw e y₁)
