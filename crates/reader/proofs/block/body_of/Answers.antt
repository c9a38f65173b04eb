use mathlib.Core.Path.{◌≡◌, sym, ◌∙◌}
use mathlib.Core.List.{List}
use Prim.Native.Nat.{ℕ}
use native.Mathlib.Omega.{arith}
use Rattle.std.proofs.lemmas.Bool.{ne_eqb}
use Rattle.lists.specs.Lists.{at}
use Rattle.blocks.specs.Block.{sixteen, Sound}
use Rattle.reader.proofs.Parse.{Head, words_told, rules_told, end_told, no_end, no_edition, no_number, no_kind}
use Rattle.reader.proofs.block.body_of.Goals.{then-c-eq0, else-c-eq0}
use Rattle.reader.proofs.block.body_of.Goals as goal

-- what the header says, once the number is tested
head : {i x : ℕ} {b : List ℕ} → Sound b → at b 1 ≡ 1 → x ≡ sixteen b 1 → x ≡ i → Head i b
head sound edition read number = record {
  sound = sound;
  edition = edition;
  place = sym read ∙ number;
}

pub returns-then-b-ne1 : goal.returns-then-b-ne1
returns-then-b-ne1 c = no_edition c.if-b-ne1.true

pub returns-then-from-i : goal.returns-then-from-i
returns-then-from-i c = no_number (c.from.ensures ∙ c.number_at.ensures) c.if-from-i.true

pub returns-in-1 : goal.returns-in-1
returns-in-1 c =
    rw c.then_some.ensures
    (words_told (head c.requires c.if-b-ne1.false (c.from.ensures ∙ c.number_at.ensures) c.if-from-i.false) c.in-1.is
    (c.from-c.ensures ∙ c.number_at-2.ensures) c.has_records.ensures)

pub returns-in-2 : goal.returns-in-2
returns-in-2 c =
    rw c.then_some-in-2.ensures
    (rules_told (head c.requires c.if-b-ne1.false (c.from.ensures ∙ c.number_at.ensures) c.if-from-i.false) c.in-2.is
    (c.from-c.ensures ∙ c.number_at-2.ensures) c.has_records-in-2.ensures)

pub returns-after-c-eq0 : goal.returns-after-c-eq0
returns-after-c-eq0 c = rw c.then_some-in-3.ensures (elim c.if-c-eq0.branch [
  | then-c-eq0 w ↦ rw w.then_some-is
      (end_told (head c.requires c.if-b-ne1.false (c.from.ensures ∙ c.number_at.ensures) c.if-from-i.false) c.in-3.is
      (c.from-c.ensures ∙ c.number_at-2.ensures) w.if-c-eq0.true c.limit_of.ensures w.is_clear.ensures)
  | else-c-eq0 w ↦ rw (w.then_some-is, ne_eqb _ _ w.if-c-eq0.false)
      (no_end c.in-3.is (c.from-c.ensures ∙ c.number_at-2.ensures) (λ z. absurd (w.if-c-eq0.false z)))
])

pub returns-in_default : goal.returns-in_default
returns-in_default c = no_kind {b = c.args.b.now} (λ e. omega arith) (λ e. omega arith) (λ e. omega arith)
