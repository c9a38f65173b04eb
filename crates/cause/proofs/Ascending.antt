-- The entries that `cause` gives back are rule numbers, strictly ascending: each rule is named once at most.
use mathlib.Core.List.{List}
use Prim.Native.Nat.{ℕ, ◌<◌}
use native.Mathlib.Omega.{arith}
use Rattle.lists.specs.Lists.{at}
use Rattle.problem.specs.Lent.{rule_count, rule_at}
use Rattle.lists.proofs.Series.{length_series}
use Rattle.cause_theory.proofs.Ascending.{cause_ascending, cause_below}
use Rattle.std.specs.Prelude.{Ok}
use Rattle.cause.specs.declared.Caused.TheVariants as answer
use Rattle.cause.specs.Promise.{Causing, caused_by}

module _ {limit : ℕ} {ws bs s l : List ℕ} {g k : ℕ} {s' l' : List ℕ} (c : Causing limit ws bs s l (Ok (answer.Cause g k)) s' l') where
  -- of two of the first k entries the later is the greater
  pub listed_ascending : (i j : ℕ) → i < j → j < k → at s' i < at s' j
  listed_ascending i j h b = go c
    where
      go : Causing limit ws bs s l (Ok (answer.Cause g k)) s' l' → at s' i < at s' j
      go (caused_by f n q e x) = rw (e.each i (omega (arith, q)), e.each j (omega (arith, q))) (cause_ascending n i j h (omega (arith, q)))

  -- each is the number of a rule
  pub listed_below : (i : ℕ) → i < k → at s' i < rule_count bs
  listed_below i b = go c
    where
      go : Causing limit ws bs s l (Ok (answer.Cause g k)) s' l' → at s' i < rule_count bs
      go (caused_by f n q e x) =
          rw (e.each i (omega (arith, q))) (omega (arith, cause_below n i (omega (arith, q)), length_series (rule_count bs) (rule_at bs)))
