-- The entries of a cause are rule numbers, strictly ascending: a cause names each rule once at most.
use mathlib.Core.List.{List, [], ◌∷◌}
use Prim.Native.Nat.{ℕ, zero, suc, ◌≤◌, ◌<◌}
use native.Mathlib.Nat.{le_refl}
use native.Mathlib.Omega.{arith}
use lib.ListN.{length}
use Rattle.words.specs.Table.{Table}
use Rattle.lists.specs.Lists.{at}
use Rattle.rules.specs.Tight.{Rule}
use Rattle.cause_theory.specs.Cause.{CAUSE, Trims, decided, spared, needed, Causes, trimmed}

-- numbers from n on and below m, strictly ascending
record Climbs (n m : ℕ) (l : List ℕ) : Type 0 where
  from : (i : ℕ) → i < length l → n ≤ at l i
  below : (i : ℕ) → i < length l → at l i < m
  strictly : (i j : ℕ) → i < j → j < length l → at l i < at l j

climbs_none : {n m : ℕ} → Climbs n m []
climbs_none = record { from = λ i h. absurd (omega arith); below = λ i h. absurd (omega arith); strictly = λ i j h e. absurd (omega arith) }

module _ {n m : ℕ} {l : List ℕ} (c : Climbs (suc n) m l) where
  climbs_lower : Climbs n m l
  climbs_lower = record { from = λ i h. omega (arith, c.from i h); below = c.below; strictly = c.strictly }

  climbs_front : n < m → Climbs n m (n ∷ l)
  climbs_front low = record { from = first; below = under; strictly = order }
    where
      first : (i : ℕ) → i < length (n ∷ l) → n ≤ at (n ∷ l) i
      first zero h = le_refl n
      first (suc i) h = omega (arith, c.from i (omega arith))

      under : (i : ℕ) → i < length (n ∷ l) → at (n ∷ l) i < m
      under zero h = low
      under (suc i) h = c.below i (omega arith)

      order : (i j : ℕ) → i < j → j < length (n ∷ l) → at (n ∷ l) i < at (n ∷ l) j
      order zero zero h e = absurd (omega arith)
      order zero (suc j) h e = c.from j (omega arith)
      order (suc i) zero h e = absurd (omega arith)
      order (suc i) (suc j) h e = c.strictly i j (omega arith) (omega arith)

module _ {w : List ℕ} {rs : List Rule} {limit : ℕ} {t : Table} where
  trims_climb : {n c d : ℕ} {kept out : List ℕ} → Trims w rs limit t n kept c (CAUSE out d) → n ≤ length rs → Climbs n (length rs) kept
      → Climbs 0 (length rs) out
  trims_climb decided l h = h
  trims_climb (spared s r) l h = trims_climb r (omega arith) (climbs_lower h)
  trims_climb (needed s r) l h = trims_climb r (omega arith) (climbs_front h l)

  cause_climbs : {d : ℕ} {out : List ℕ} → Causes w rs limit t (CAUSE out d) → Climbs 0 (length rs) out
  cause_climbs (trimmed s r) = trims_climb r (le_refl (length rs)) climbs_none

  -- of two entries the later is the greater, so none comes twice
  pub cause_ascending : {d : ℕ} {out : List ℕ} → Causes w rs limit t (CAUSE out d) → (i j : ℕ) → i < j → j < length out → at out i < at out j
  cause_ascending c = (cause_climbs c).strictly

  -- each is the number of a rule
  pub cause_below : {d : ℕ} {out : List ℕ} → Causes w rs limit t (CAUSE out d) → (i : ℕ) → i < length out → at out i < length rs
  cause_below c = (cause_climbs c).below
