use mathlib.Core.Path.{◌≡◌, ◌∙◌, subst}
use mathlib.Core.List.{List}
use Prim.Native.Nat.{ℕ, ◌+◌, ◌*◌, ◌%◌, ◌-◌}
use lib.ListN.{take, drop}
use lib.ListN.{length}
use Rattle.std.specs.Prelude.{Option, Some, MatchOption, ◌≢◌}
use Rattle.std.specs.Array.{IsWholeChunk}
use Rattle.std.proofs.Common.{Bor}
use Rattle.blocks.specs.Block.{sum, Sound}
use Rattle.blocks.specs.Edition.{edition1}
use Rattle.blocks.specs.File.{block_at}
use Rattle.blocks.proofs.Fair.{fair1}
use Rattle.blocks.proofs.Shape.{run_shaped}
use Rattle.reader.specs.Scans.{Stands}
use Rattle.reader.proofs.Turns.{cut, stepped_there, sum_right, sum_wrong, of_going, turn_check, turn_ended, turn_next}
use Rattle.reader.proofs.machine.turn_at.Goals as goal

-- the sum was right
right : {b : List ℕ} (f : List ℕ) (i : ℕ) {s : ℕ} → b ≡ block_at f i → s ≡ sum b % 65536 → s ≡ 65535 → Sound (block_at f i)
right f i p e h = subst Sound p (sum_right e h)

-- the array is block i
whole : (f : List ℕ) (i : ℕ) {r : Option (Bor (List ℕ))} {b : Bor (List ℕ)} → r ≡ Some b
    → MatchOption r (length (take (512 * i + 512 - 512 * i) (drop (512 * i) f)) ≢ 512)
    (λ y. IsWholeChunk (take (512 * i + 512 - 512 * i) (drop (512 * i) f)) y.now 512)
    → b.now ≡ block_at f i
whole f i e m = (rw e at m).same ∙ cut f i

pub returns-then-sum_of : goal.returns-then-sum_of
returns-then-sum_of c =
    turn_check (record { under = record { each = λ j. (c.type_inv.file j).fits }; room = c.requires.0 }) c.requires.1
    (subst (λ b. ¬ Sound b) (whole _ _ c.unwrap-b.ensures c.as_array.ensures.cases) (sum_wrong c.sum_of.ensures c.if-sum_of.true))

pub returns-in_default : goal.returns-in_default
returns-in_default c =
    turn_ended (record { under = record { each = λ j. (c.type_inv.file j).fits }; room = c.requires.0 }) (subst (Stands _ _) c.in_default.is c.requires.1)
    (right _ _ (whole _ _ c.unwrap-b.ensures c.as_array.ensures.cases) c.sum_of.ensures c.if-sum_of.false)

pub step_on-requires : goal.step_on-requires
step_on-requires c =
    let r = run_shaped edition1 fair1 _ (of_going (subst (Stands _ _) c.in-Going.is c.requires.1)) in
    (r.few, r.many, sum_right c.sum_of.ensures c.if-sum_of.false)

pub returns : goal.returns
returns c =
    let p = whole _ _ c.unwrap-b.ensures c.as_array.ensures.cases in
    rw c.ok_or.ensures.value
    (turn_next (record { under = record { each = λ j. (c.type_inv.file j).fits }; room = c.requires.0 }) (subst (Stands _ _) c.in-Going.is c.requires.1)
    (right _ _ p c.sum_of.ensures c.if-sum_of.false) (stepped_there p c.step_on.ensures))
