use mathlib.Core.Path.{refl, sym, ◌∙◌}
use mathlib.Core.List.{List}
use Rattle.lists.specs.Lists.{at}
use Prim.Native.Nat.{ℕ, ◌<◌, ◌^◌}
use borrow.Author.Tests.{not-true, not-false}
use Rattle.checker.proofs.Handed.{handed_on}
use Rattle.blocks.specs.Promise.{Writes}
use Rattle.blocks.specs.Written.{Slices}
use Rattle.blocks.proofs.Passed.{passed}
use Rattle.writer.proofs.Answers.{room, no_room}
use Rattle.writer.proofs.write.Goals as goal

-- the lent numbers fit their types
slices : {words rules : List ℕ} → ((i : ℕ) → at words i < 2 ^ 64) → ((i : ℕ) → at rules i < 2 ^ 8) → Slices words rules
slices u v = record {
  words = record { each = u };
  rules = record { each = v };
}

pub returns-then-not-has_room : goal.returns-then-not-has_room
returns-then-not-has_room c = no_room _ _ _ _ (sym c.has_room.ensures ∙ not-true _ c.if-not-has_room.true-raw)

pub returns-in_err-check : goal.returns-in_err-check
returns-in_err-check c =
    rw (handed_on c.from_residual.result c.from_residual.ensures.1)
    (Writes.refused (room c.args.limit c.args.words.now c.args.rules.now c.args.file.now (sym c.has_room.ensures ∙ not-false _ c.if-not-has_room.false-raw))
    (sym c.check.ensures ∙ c.in_err-check.was) refl)

pub write_all-requires : goal.write_all-requires
write_all-requires c =
    let fine = passed (slices (λ i. (c.type_inv.words i).fits) (λ i. (c.type_inv.rules i).fits)) (sym c.check.ensures ∙ c.in_ok-check.was) in
    (fine, room c.args.limit c.args.words.now c.args.rules.now c.args.file.now (sym c.has_room.ensures ∙ not-false _ c.if-not-has_room.false-raw))

pub returns : goal.returns
returns c =
    Writes.ok (room c.args.limit c.args.words.now c.args.rules.now c.args.file.now (sym c.has_room.ensures ∙ not-false _ c.if-not-has_room.false-raw))
    (sym c.check.ensures ∙ c.in_ok-check.was) c.write_all.ensures.0 c.write_all.ensures.1
