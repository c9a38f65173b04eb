-- What the entries that `cause` gives back are: a list of rules without settings, of which none can be left out.
use mathlib.Core.Path.{◌≡◌, sym, subst, ◌∙◌}
use mathlib.Core.Logic.{◌≢◌}
use mathlib.Core.List.{List}
use Prim.Native.Nat.{ℕ, ◌<◌}
use native.Mathlib.Omega.{arith}
use native.Mathlib.Decide.{ℕ_discrete}
use lib.ListN.{length, take, length-take}
use lib.Seq.{ext_get_or, get_or-take}
use Rattle.rules.proofs.Propers.{proper_inside}
use Rattle.problem.specs.Lent.{table_of}
use Rattle.search_theory.specs.Settings.{Settings, Without}
use Rattle.cause_theory.specs.Cause.{CAUSE}
use Rattle.cause_theory.proofs.Without.{cause_without, cause_some}
use Rattle.lists.specs.Every.{In}
use Rattle.cause_theory.proofs.Irreducible.{cause_irreducible}
use Rattle.std.specs.Prelude.{Ok}
use Rattle.cause.specs.declared.Caused.TheVariants as answer
use Rattle.cause.specs.Promise.{Named, Causing, caused_by, CauseGiven, RulesHold}
use Rattle.cause.proofs.Calling.{fine}

module _ {limit : ℕ} {ws bs s l : List ℕ} {g k : ℕ} {s' l' : List ℕ} (c : Causing limit ws bs s l (Ok (answer.Cause g k)) s' l') where
  -- the first k entries are the cause of the paper's procedure, and g its sum
  pub cause_listed : Named limit ws bs (CAUSE (take k s') g)
  cause_listed = go c
    where
      go : Causing limit ws bs s l (Ok (answer.Cause g k)) s' l' → Named limit ws bs (CAUSE (take k s') g)
      go (caused_by {out = out} h n q e x) = subst (λ o. Named limit ws bs (CAUSE o g)) (sym same) n
        where
          long : length (take k s') ≡ length out
          long = simp length-take (omega (arith, e.size, e.room, q))

          same : take k s' ≡ out
          same =
              ext_get_or 0 (take k s') out long
              (λ i b. let a : i < length out = rw long at b in get_or-take k s' i 0 (omega (arith, q)) ∙ e.each i a)

  -- these rules have no settings
  pub listed_without : Without (RulesHold ws bs (take k s')) (table_of ws)
  listed_without = cause_without cause_listed

  -- every list got by leaving out one or more of them has some, whatever a search at this limit would say
  pub listed_irreducible : (n : ℕ) → In n (take k s') → (xs : List ℕ) → ((j : ℕ) → In j xs → In j (take k s') × (j ≢ n))
      → (v : List ℕ) × Settings (RulesHold ws bs xs) (table_of ws) v
  listed_irreducible = cause_irreducible cause_listed

  -- and there is at least one
  pub listed_some : 0 < k
  listed_some = go c
    where
      none_left : k ≡ 0 → CauseGiven limit ws bs s l → ⊥
      none_left z h = cause_some (proper_inside (fine h).problem.table) (rw z at cause_listed)

      go : Causing limit ws bs s l (Ok (answer.Cause g k)) s' l' → 0 < k
      go (caused_by h n q e x) = by (ℕ_discrete k 0)
        where
          by : Dec (k ≡ 0) → 0 < k
          by (yes z) = absurd (none_left z h)
          by (no d) = omega arith
