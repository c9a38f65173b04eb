-- Every proper problem has exactly one answer to "what is the cause", at every limit: nothing is taken for granted about its searches.
use mathlib.Core.Path.{◌≡◌}
use mathlib.Core.List.{List}
use Prim.Native.Nat.{ℕ}
use Rattle.words.specs.Table.{Table}
use Rattle.rules.specs.Tight.{Rule}
use Rattle.rules.specs.Proper.{Proper}
use Rattle.search_theory.proofs.Problem.{exactly_one}
use Rattle.cause_theory.specs.Cause.{Cause, Causes}
use Rattle.cause_theory.proofs.One.{one_cause}
use Rattle.cause_theory.proofs.Named.{named, named_right}

module _ (w : List ℕ) (rs : List Rule) (t : Table) (proper : Proper w t) (limit : ℕ) where
  -- the trials made with the outcome that each list of rules has
  pub every_cause : (x : Cause) × Causes w rs limit t x
  every_cause = (
    named (λ xs. (exactly_one w xs t proper limit).0) rs limit,
    named_right (λ xs. (exactly_one w xs t proper limit).0) rs limit w t (λ xs. (exactly_one w xs t proper limit).1),
  )

  pub exactly_one_cause : (x : Cause) × Causes w rs limit t x × ((y : Cause) → Causes w rs limit t y → y ≡ x)
  exactly_one_cause =
      let (x, c) = every_cause in
      (x, c, λ y d. one_cause w rs limit t d c)
