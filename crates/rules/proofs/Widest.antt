-- Tightening ends with the widest tight table or with a conflict; so every proper table has the one or the other.
use mathlib.Core.Logic.{◌⊎◌, inl, inr}
use mathlib.Core.List.{List, [], ◌∷◌}
use Prim.Native.Nat.{ℕ, zero, suc, ◌<◌}
use native.Mathlib.Omega.{arith}
use lib.ListN.{length}
use Rattle.words.specs.Table.{Table}
use Rattle.words.specs.Count.{open_below}
use Rattle.rules.specs.Tight.{Rule, TightAt, Tight, rule}
use Rattle.rules.specs.Proper.{Proper}
use Rattle.rules.specs.Tightening.{Widest, Conflict, Tightened, TIGHT, CONFLICT, Tightens}
use Rattle.lists.specs.Every.{All}
use Rattle.rules.proofs.Propers.{proper_inside, proper_narrower, bits_below, open_bits}
use Rattle.rules.proofs.Held.{Held, held_start, held_tight, held_widest, held_conflict}
use Rattle.rules.proofs.Steps.{Step, on_step, loop, tightened}
use Rattle.rules.proofs.Found.{Found, found_still, found_narrower, found_stuck, step_found}

-- a fact of each rule by its number, and of all rules of a list
all_rules : (Q : Rule → Type 0) (rs : List Rule) → ((n : ℕ) → n < length rs → Q (rule rs n)) → All Q rs
all_rules Q [] h = tt
all_rules Q (ρ ∷ rs) h = (h 0 (omega arith), all_rules Q rs (λ n l. h (suc n) (omega arith)))

all_at : (Q : Rule → Type 0) (rs : List Rule) → All Q rs → (n : ℕ) → n < length rs → Q (rule rs n)
all_at Q [] h n l = absurd (omega arith)
all_at Q (ρ ∷ rs) h zero l = h.0
all_at Q (ρ ∷ rs) h (suc n) l = all_at Q rs h.1 n (omega arith)

held_tightens : {P : Table → Type 0} {t u : Table} (x : Tightened) → Held P t u → Tightens P u x → Tightens P t x
held_tightens (TIGHT v) h f = held_widest h f
held_tightens CONFLICT h f = held_conflict h f

module _ (w : List ℕ) (rs : List Rule) where
  told : All (λ ρ. (s : Table) → Tight w rs s → TightAt w s ρ) rs
  told = all_rules _ rs (λ n l s h. h.each n l)

  loop_right : (k : ℕ) (t : Table) → Proper w t → open_below (length t.lo) t < k → Tightens (Tight w rs) t (loop w rs k t)
  unfolding loop
  loop_right zero t ok l = absurd (omega arith)
  loop_right (suc k) t ok l = go (step_found ok rs told) (λ u x m. loop_right k u x m)
    where
      go : {x : Step} → Found (Tight w rs) t (All (TightAt w t) rs) x
          → ((u : Table) → Proper w u → open_below (length u.lo) u < k → Tightens (Tight w rs) u (loop w rs k u))
          → Tightens (Tight w rs) t (on_step x t (λ u. loop w rs k u))
      go (found_still q) ih = held_tight (held_start (proper_inside ok)) (record { each = all_at (TightAt w t) rs q })
      go (found_narrower {u = u} h m) ih =
          held_tightens (loop w rs k u) h (ih u (proper_narrower ok h.inside) (rw h.inside.los (omega arith)))
      go (found_stuck c) ih = c

  pub tightened_right : (t : Table) → Proper w t → Tightens (Tight w rs) t (tightened w rs t)
  unfolding tightened
  tightened_right t ok =
      loop_right (suc (bits_below (length w) w)) t ok (rw ok.los (omega (arith, open_bits ok (length w))))

  -- every proper table has a widest tight table inside it, or none
  pub every_table : (t : Table) → Proper w t → ((u : Table) × Widest (Tight w rs) t u) ⊎ Conflict (Tight w rs) t
  every_table t ok = go (tightened w rs t) (tightened_right t ok)
    where
      go : (x : Tightened) → Tightens (Tight w rs) t x → ((u : Table) × Widest (Tight w rs) t u) ⊎ Conflict (Tight w rs) t
      go (TIGHT u) f = inl (u, f)
      go CONFLICT f = inr f
