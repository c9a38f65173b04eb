-- Two causes allowed for one problem and one limit are equal.
use mathlib.Core.Path.{◌≡◌, refl, ap}
use mathlib.Core.List.{List}
use Prim.Native.Nat.{ℕ}
use native.Mathlib.Omega.{arith}
use Rattle.words.specs.Table.{Table}
use Rattle.rules.specs.Tight.{Rule, Tight}
use Rattle.search_theory.specs.Search.{Outcome, found, none}
use Rattle.search_theory.proofs.Outcomes.{found_not_none, found_not_gave_up, none_not_gave_up}
use Rattle.search_theory.proofs.Unique.{one_outcome}
use Rattle.cause_theory.specs.Cause.{Cause, CAUSE, Tried, Trims, decided, spared, needed, unknown, Causes, exists, gives_up, trimmed}

module _ {w : List ℕ} {limit : ℕ} {t : Table} where
  pub same : {xs : List Rule} {o o' : Outcome} → Tried w limit t xs o → Tried w limit t xs o' → o ≡ o'
  same {xs} s s' = one_outcome (Tight w xs) limit s s'

  pub none_count : {xs : List Rule} {c d : ℕ} → Tried w limit t xs (none c) → Tried w limit t xs (none d) → c ≡ d
  none_count s s' = let e = same s s' in cc

  found_count : {xs : List Rule} {u v : List ℕ} {c d : ℕ} → Tried w limit t xs (found u c) → Tried w limit t xs (found v d) → c ≡ d
  found_count s s' = let e = same s s' in cc

module _ (w : List ℕ) (rs : List Rule) (limit : ℕ) (t : Table) where
  pub one_trim : {n c c' : ℕ} {kept : List ℕ} {x y : Cause} → Trims w rs limit t n kept c x → Trims w rs limit t n kept c' y → c ≡ c' → x ≡ y
  one_trim {kept = k} decided decided e = ap (CAUSE k) e
  one_trim (spared s r) (spared s' r') e = one_trim r r' (omega (arith, none_count s s'))
  one_trim (spared s r) (needed s' r') e = absurd (found_not_none (same s' s))
  one_trim (spared s r) (unknown s') e = absurd (none_not_gave_up (same s s'))
  one_trim (needed s r) (spared s' r') e = absurd (found_not_none (same s s'))
  one_trim (needed s r) (needed s' r') e = one_trim r r' (omega (arith, found_count s s'))
  one_trim (needed s r) (unknown s') e = absurd (found_not_gave_up (same s s'))
  one_trim (unknown s) (spared s' r') e = absurd (none_not_gave_up (same s' s))
  one_trim (unknown s) (needed s' r') e = absurd (found_not_gave_up (same s' s))
  one_trim (unknown s) (unknown s') e = rw e refl

  pub one_cause : {x y : Cause} → Causes w rs limit t x → Causes w rs limit t y → x ≡ y
  one_cause (exists s) (exists s') = let e = same s s' in cc
  one_cause (exists s) (gives_up s') = absurd (found_not_gave_up (same s s'))
  one_cause (exists s) (trimmed s' r') = absurd (found_not_none (same s s'))
  one_cause (gives_up s) (exists s') = absurd (found_not_gave_up (same s' s))
  one_cause (gives_up s) (gives_up s') = refl
  one_cause (gives_up s) (trimmed s' r') = absurd (none_not_gave_up (same s' s))
  one_cause (trimmed s r) (exists s') = absurd (found_not_none (same s' s))
  one_cause (trimmed s r) (gives_up s') = absurd (none_not_gave_up (same s s'))
  one_cause (trimmed s r) (trimmed s' r') = one_trim r r' (none_count s s')
