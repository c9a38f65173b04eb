-- One law for all calls: what is lent too short is refused, then the first refusal of the problem, and else the problem is given.
use mathlib.Core.Path.{◌≡◌}
use mathlib.Core.List.{List}
use Prim.Native.Nat.{ℕ, ◌≤◌, ◌<◌}
use lib.Dec.{leb}
use borrow.Author.Tests.{le-leb, lt-leb, leb-true}
use Rattle.std.specs.Prelude.{Ok, Err}
use Rattle.checker.specs.declared.refusal.Refusal.TheVariants.{Size}
use Rattle.checker.specs.Demands.{SIZE}
use Rattle.checker.specs.Refusal.{Checked, asks, ◌then◌, refusal, with_room}
use Rattle.checker.specs.Promise.{Taken}
use Rattle.checker.proofs.Answers.{passes}
use Rattle.checker.proofs.Right.{proper_fine}

module _ (a x b y : ℕ) (z : Checked) where
  pub first_short : x < a → with_room a x b y z ≡ Err Size
  unfolding with_room
  first_short h = rw (lt-leb a x h)

  pub second_short : a ≤ x → y < b → with_room a x b y z ≡ Err Size
  unfolding with_room
  second_short g h = rw (le-leb a x g, lt-leb b y h)

  pub roomy : a ≤ x → b ≤ y → with_room a x b y z ≡ z
  unfolding with_room
  roomy g h = rw (le-leb a x g, le-leb b y h)

  pub has_room : with_room a x b y z ≡ Ok tt → (a ≤ x) × (b ≤ y) × (z ≡ Ok tt)
  unfolding with_room
  has_room e =
      let (p, f) = passes SIZE (leb a x) (asks SIZE (leb b y) then z) e in
      let (q, g) = passes SIZE (leb b y) z f in
      (leb-true a x p, leb-true b y q, g)

-- a call with one buffer and no limit
pub problem_taken : {a x : ℕ} (ws bs : List ℕ) → a ≤ x → refusal ws bs ≡ Ok tt → Taken a x ws bs
problem_taken ws bs h e =
    let fine = proper_fine ws bs e in
    record { sized = fine.sized; problem = fine.problem; room = h }

pub taken : (a x : ℕ) (ws bs : List ℕ) → with_room a x 0 0 (refusal ws bs) ≡ Ok tt → Taken a x ws bs
taken a x ws bs e = let (h, k, ok) = has_room a x 0 0 (refusal ws bs) e in problem_taken ws bs h ok
