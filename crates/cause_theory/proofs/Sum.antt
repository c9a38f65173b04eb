-- The count of a cause is a sum that the first search is part of, and that no search exceeds the limit in; a cause names at most all rules.
use mathlib.Core.List.{List}
use Prim.Native.Nat.{ℕ, suc, ◌+◌, ◌*◌, ◌≤◌}
use native.Mathlib.Nat.{le_refl}
use native.Mathlib.Omega.{arith}
use lib.ListN.{length}
use Rattle.words.specs.Table.{Table}
use Rattle.rules.specs.Tight.{Rule}
use Rattle.search_theory.specs.Search.{none, answer_found, answer_none}
use Rattle.search_theory.proofs.Limit.{count_limit}
use Rattle.search_theory.proofs.Outcomes.{found_not_none, none_not_gave_up}
use Rattle.cause_theory.specs.Cause.{Cause, CAUSE, Tried, Trims, decided, spared, needed, unknown, Causes, exists, gives_up, trimmed, sum_of}
use Rattle.cause_theory.proofs.One.{same, none_count}

trims_sum : {w : List ℕ} {rs : List Rule} {limit : ℕ} {t : Table} {n c : ℕ} {kept : List ℕ} {x : Cause} → Trims w rs limit t n kept c x → c ≤ sum_of x
trims_sum decided = le_refl _
trims_sum (spared s r) = omega (arith, trims_sum r)
trims_sum (needed s r) = omega (arith, trims_sum r)
trims_sum (unknown s) = omega arith

-- the count of the first search is part of the sum
pub sum_first : {w : List ℕ} {rs : List Rule} {limit : ℕ} {t : Table} {c : ℕ} {x : Cause} → Tried w limit t rs (none c) → Causes w rs limit t x → c ≤ sum_of x
sum_first f (exists s) = absurd (found_not_none (same s f))
sum_first f (gives_up s) = absurd (none_not_gave_up (same f s))
sum_first f (trimmed s r) = omega (arith, none_count f s, trims_sum r)

trims_limit : {w : List ℕ} {rs : List Rule} {limit : ℕ} {t : Table} {n c : ℕ} {kept : List ℕ} {x : Cause} → Trims w rs limit t n kept c x
    → sum_of x ≤ c + n * limit
trims_limit decided = omega arith
trims_limit (spared s r) = omega (arith, count_limit s answer_none (omega arith), trims_limit r)
trims_limit (needed s r) = omega (arith, count_limit s answer_found (omega arith), trims_limit r)
trims_limit (unknown s) = omega arith

-- the first search and a trial for each rule count at most the limit each
pub sum_limit : {w : List ℕ} {rs : List Rule} {limit : ℕ} {t : Table} {x : Cause} → Causes w rs limit t x → sum_of x ≤ suc (length rs) * limit
sum_limit (exists s) = omega (arith, count_limit s answer_found (omega arith))
sum_limit (gives_up s) = omega arith
sum_limit (trimmed s r) = omega (arith, count_limit s answer_none (omega arith), trims_limit r)

trims_named : {w : List ℕ} {rs : List Rule} {limit : ℕ} {t : Table} {n c g : ℕ} {kept out : List ℕ} → Trims w rs limit t n kept c (CAUSE out g)
    → length out ≤ n + length kept
trims_named decided = omega arith
trims_named (spared s r) = omega (arith, trims_named r)
trims_named (needed s r) = omega (arith, trims_named r)

-- no more rules are named than there are (that none is named twice: Ascending)
pub named_rules : {w : List ℕ} {rs : List Rule} {limit : ℕ} {t : Table} {g : ℕ} {out : List ℕ} → Causes w rs limit t (CAUSE out g) → length out ≤ length rs
named_rules (trimmed s r) = omega (arith, trims_named r)
