-- What a search can be, once it is known how its table tightens.
use mathlib.Core.Path.{◌≡◌, refl, ap}
use Prim.Native.Nat.{ℕ, suc, ◌≤◌, ◌<◌}
use native.Mathlib.Omega.{arith}
use Rattle.words.specs.Table.{Table, Guess, Done, with0, with1}
use Rattle.words.proofs.Tables.{one_guess}
use Rattle.rules.specs.Tightening.{Widest, Conflict}
use Rattle.rules.proofs.OneWidest.{one_widest, not_both}
use Rattle.search_theory.specs.Search.{Outcome, found, none, gave_up, Ends, Search, conflict, settled, stopped, first, second}

-- a search that guesses: the first value's outcome, or the second's after none
pub data Branches (Tight : Table → Type 0) (limit : ℕ) (t₀ t₁ : Table) (g : ℕ) (o : Outcome) : Type 0 where
  branch0 : Search Tight limit t₀ (suc g) o → Ends o → Branches Tight limit t₀ t₁ g o
  branch1 : (n : ℕ) → Search Tight limit t₀ (suc g) (none n) → Search Tight limit t₁ n o → Branches Tight limit t₀ t₁ g o

module _ (Tight : Table → Type 0) where
  -- one step decides: the same tight table, the same guess
  same_step : {t u u' : Table} {i j i' j' : ℕ} → Widest Tight t u → Guess u i j → Widest Tight t u' → Guess u' i' j'
      → (with0 u i j ≡ with0 u' i' j') × (with1 u i j ≡ with1 u' i' j')
  same_step {t} {u} {u'} {i} {j} {i'} {j'} w g w' g' =
      let e : u ≡ u' = one_widest Tight t u u' w w' in
      let (p, q) = one_guess u' i j i' j' (rw e at g) g' in
      (cc, cc)

  not_done : {t u u' : Table} {i j : ℕ} → Widest Tight t u → Done u → Widest Tight t u' → Guess u' i j → ⊥
  not_done {t} {u} {u'} {i} {j} w d w' h = d i j (rw (one_widest Tight t u' u w' w) at h.here)

  module _ (limit : ℕ) where
    pub at_conflict : {t : Table} {g : ℕ} {o : Outcome} → Conflict Tight t → Search Tight limit t g o → o ≡ none g
    at_conflict c (conflict c') = refl
    at_conflict c (settled w d) = absurd (not_both Tight w c)
    at_conflict c (stopped w h l) = absurd (not_both Tight w c)
    at_conflict c (first w h l s n) = absurd (not_both Tight w c)
    at_conflict c (second w h l s r) = absurd (not_both Tight w c)

    pub at_done : {t u : Table} {g : ℕ} {o : Outcome} → Widest Tight t u → Done u → Search Tight limit t g o → o ≡ found u.lo g
    at_done w d (conflict c) = absurd (not_both Tight w c)
    at_done {t} {u} {g} w d (settled {u = u'} w' d') = ap (λ (x : Table). found x.lo g) (one_widest Tight t u' u w' w)
    at_done w d (stopped w' h l) = absurd (not_done w d w' h)
    at_done w d (first w' h l s n) = absurd (not_done w d w' h)
    at_done w d (second w' h l s r) = absurd (not_done w d w' h)

    pub at_limit : {t u : Table} {g i j : ℕ} {o : Outcome} → Widest Tight t u → Guess u i j → limit ≤ g → Search Tight limit t g o → o ≡ gave_up
    at_limit w h l (conflict c) = absurd (not_both Tight w c)
    at_limit w h l (settled w' d) = absurd (not_done w' d w h)
    at_limit w h l (stopped w' h' l') = refl
    at_limit w h l (first w' h' l' s n) = absurd (omega arith)
    at_limit w h l (second w' h' l' s r) = absurd (omega arith)

    pub at_guess : {t u : Table} {g i j : ℕ} {o : Outcome} → Widest Tight t u → Guess u i j → g < limit → Search Tight limit t g o
        → Branches Tight limit (with0 u i j) (with1 u i j) g o
    at_guess w h l (conflict c) = absurd (not_both Tight w c)
    at_guess w h l (settled w' d) = absurd (not_done w' d w h)
    at_guess w h l (stopped w' h' l') = absurd (omega arith)
    at_guess w h l (first w' h' l' s n) = branch0 (rw (same_step w h w' h').0 s) n
    at_guess w h l (second {n = n} w' h' l' s r) = branch1 n (rw (same_step w h w' h').0 s) (rw (same_step w h w' h').1 r)
