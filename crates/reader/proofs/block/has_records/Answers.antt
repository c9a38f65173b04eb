use Rattle.std.proofs.Common.{sym, ◌∙◌, arith}
use Rattle.std.proofs.lemmas.Bool.Decides.{nat_tests}
use Rattle.lists.proofs.Deciding.{decided, refuted}
use Rattle.reader.proofs.Gaps.{records_fail, records_rest}
use Rattle.reader.proofs.block.has_records.Goals.{then-c-gt0, else-c-gt0, then-c-shape, else-c-shape}
use Rattle.reader.proofs.block.has_records.Goals as goal

pub returns-then-has_gaps : goal.returns-then-has_gaps
returns-then-has_gaps c = elim c.if-c-shape.branch [
  | then-c-shape w ↦
      records_rest _ _ _ _ _ w.if-c-shape.true.0 w.if-c-shape.true.1 (decided w.has_gaps.ensures (sym w.value-is ∙ c.if-has_gaps.true)) c.is_clear.ensures
  | else-c-shape w ↦ elim c.if-c-gt0.branch [ then-c-gt0 v ↦ absurd (grind (arith, nat_tests)) | else-c-gt0 v ↦ absurd (grind (arith, nat_tests)) ]
]

pub returns-else-has_gaps : goal.returns-else-has_gaps
returns-else-has_gaps c = rw c.if-has_gaps.false (elim c.if-c-shape.branch [
  | then-c-shape w ↦ records_fail _ _ _ _ _ (λ p q. refuted w.has_gaps.ensures (sym w.value-is ∙ c.if-has_gaps.false))
  | else-c-shape w ↦ records_fail _ _ _ _ _ (λ p q g. omega arith)
])
