-- The search, computed with any tightening that is right: it always comes to an outcome, at every limit.
use mathlib.Core.Path.{◌≡◌, refl}
use mathlib.Core.Bool.{Bool, true, false}
use Prim.Native.Nat.{ℕ, zero, suc, ◌^◌, ◌≤◌, ◌<◌}
use native.Mathlib.Omega.{arith}
use lib.Dec.{ltb}
use borrow.Author.Tests.{ltb-true, ltb-false}
use lib.ListN.{length}
use Rattle.words.specs.Table.{Table, Inside, Guess, with0, with1}
use Rattle.lists.specs.Lists.{at}
use Rattle.words.specs.Count.{open_below}
use Rattle.words.proofs.Tables.{self, in_reach, inside_trans}
use Rattle.words.proofs.Fixing.{inside0, inside1}
use Rattle.words.proofs.Guessing.{Pick, nothing_open, guess, pick, Picked, pick_right}
use Rattle.rules.specs.Tightening.{Widest, Tightened, TIGHT, CONFLICT, Tightens}
use Rattle.search_theory.specs.Search.{Outcome, found, none, gave_up, ends_found, ends_gave_up, Search, conflict, settled, stopped, first, second}
use Rattle.search_theory.proofs.Falls.{search_falls}

abbrev pub on_tightened : Tightened → ℕ → (Table → Outcome) → Outcome
on_tightened (TIGHT u) g next = next u
on_tightened CONFLICT g next = none g

abbrev pub on_pick : Pick → Outcome → (ℕ → ℕ → Outcome) → Outcome
on_pick nothing_open done next = done
on_pick (guess i j) done next = next i j

abbrev pub on_first : Outcome → (ℕ → Outcome) → Outcome
on_first (found v n) other = found v n
on_first (none n) other = other n
on_first gave_up other = gave_up

abbrev pub on_limit : Bool → (Unit {0} → Outcome) → Outcome
on_limit true next = next tt
on_limit false next = gave_up

-- one step: a tightening's answer, the guess, the limit, and the two values, searched by r
module _ (limit : ℕ) (r : Table → ℕ → Outcome) (g : ℕ) where
  abbrev pub guessed : Table → ℕ → ℕ → Outcome
  guessed u i j = on_limit (ltb g limit) λ z. on_first (r (with0 u i j) (suc g)) λ n. r (with1 u i j) n

  abbrev pub stepped : Tightened → Outcome
  stepped x = on_tightened x g λ u. on_pick (pick u) (found u.lo g) (guessed u)

-- the search with d levels to go; there are always enough
unfoldable pub run : (Table → Tightened) → ℕ → ℕ → Table → ℕ → Outcome
run tightened limit zero t g = gave_up
run tightened limit (suc d) t g = stepped limit (λ x n. run tightened limit d x n) g (tightened t)

-- a tightening that is right on the tables that are Ok
pub record Engine (Tight Ok : Table → Type 0) (tightened : Table → Tightened) : Type 0 where
  pub right : (t : Table) → Ok t → Tightens Tight t (tightened t)
  pub whole : (t : Table) → Ok t → Inside t t
  pub short : (t : Table) → Ok t → (i : ℕ) → at t.hi i < 2 ^ 64
  pub inner : (t u : Table) → Ok t → Inside u t → Ok u

module _ (Tight Ok : Table → Type 0) (tightened : Table → Tightened) (engine : Engine Tight Ok tightened) (limit n : ℕ) where
  -- one step is right where the searches that it calls are
  module _ (d : ℕ) (r : Table → ℕ → Outcome)
      (below : (t : Table) (g : ℕ) → Ok t → length t.lo ≤ n → open_below n t < d → Search Tight limit t g (r t g))
      (t : Table) (g : ℕ) (ok : Ok t) (size : length t.lo ≤ n) (fuel : open_below n t < suc d) where
    on_guess : {u : Table} (i j : ℕ) → Widest Tight t u → Guess u i j → Search Tight limit t g (guessed limit r g u i j)
    on_guess {u} i j w h = by_limit (ltb g limit) refl
      where
        uu : Inside u u
        uu = self w.inside

        in0 : Inside (with0 u i j) t
        in0 = inside_trans (inside0 u i j uu h.here) w.inside

        in1 : Inside (with1 u i j) t
        in1 = inside_trans (inside1 u i j uu h.here) w.inside

        less : (open_below n (with0 u i j) < open_below n t) × (open_below n (with1 u i j) < open_below n t)
        less = search_falls w h n (omega (arith, in_reach u.hi i j h.here.on, w.inside.his)) (engine.whole t ok)

        run0 : Search Tight limit (with0 u i j) (suc g) (r (with0 u i j) (suc g))
        run0 = below (with0 u i j) (suc g) (engine.inner t _ ok in0) (omega (arith, in0.los)) (omega (arith, less.0))

        run1 : (k : ℕ) → Search Tight limit (with1 u i j) k (r (with1 u i j) k)
        run1 k = below (with1 u i j) k (engine.inner t _ ok in1) (omega (arith, in1.los)) (omega (arith, less.1))

        by_first : (o : Outcome) → g < limit → Search Tight limit (with0 u i j) (suc g) o → Search Tight limit t g (on_first o λ k. r (with1 u i j) k)
        by_first (found v k) l s = first w h l s ends_found
        by_first (none k) l s = second w h l s (run1 k)
        by_first gave_up l s = first w h l s ends_gave_up

        by_limit : (b : Bool) → ltb g limit ≡ b → Search Tight limit t g (on_limit b λ z. on_first (r (with0 u i j) (suc g)) λ k. r (with1 u i j) k)
        by_limit true e = by_first (r (with0 u i j) (suc g)) (ltb-true g limit e) run0
        by_limit false e = stopped w h (ltb-false g limit e)

    on_pick_lem : {u : Table} (x : Pick) → Widest Tight t u → Picked u x → Search Tight limit t g (on_pick x (found u.lo g) (guessed limit r g u))
    on_pick_lem nothing_open w p = settled w p
    on_pick_lem (guess i j) w p = on_guess i j w p

    step_right : (x : Tightened) → Tightens Tight t x → Search Tight limit t g (stepped limit r g x)
    step_right (TIGHT u) w = on_pick_lem (pick u) w (pick_right u (self w.inside) (engine.short u (engine.inner t u ok w.inside)))
    step_right CONFLICT c = conflict c

  pub run_right : (d : ℕ) (t : Table) (g : ℕ) → Ok t → length t.lo ≤ n → open_below n t < d → Search Tight limit t g (run tightened limit d t g)
  unfolding run
  run_right zero t g ok size fuel = absurd (omega arith)
  run_right (suc d) t g ok size fuel =
      step_right d (λ x k. run tightened limit d x k) (λ x k o s f. run_right d x k o s f) t g ok size fuel (tightened t) (engine.right t ok)
