-- What is known where a rule is applied: a proper problem, and a proper table of its words in memory.
use mathlib.Core.Path.{◌≡◌}
use mathlib.Core.List.{List}
use Prim.Native.Nat.{ℕ}
use Rattle.std.specs.Prelude.{Ok}
use Rattle.checker.specs.Refusal.{refusal}
use Rattle.checker.specs.Promise.{Fine}
use Rattle.checker.proofs.Right.{proper_fine}
use Rattle.tighten.specs.Ready.{Tabled}

pub record Ready (ws bs l : List ℕ) : Type 0 where
  pub fine : Fine 0 ws bs
  pub tabled : Tabled ws l

pub ready : {ws bs l : List ℕ} → refusal ws bs ≡ Ok tt → Tabled ws l → Ready ws bs l
ready {ws} {bs} e t = record { fine = proper_fine ws bs e; tabled = t }
