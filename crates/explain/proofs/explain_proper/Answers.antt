use mathlib.Core.Path.{◌≡◌, ap, ◌∙◌}
use mathlib.Core.List.{List}
use Prim.Native.Nat.{ℕ, ◌<◌}
use lib.ListN.{length}
use Rattle.lists.proofs.Deciding.{decided, refuted}
use Rattle.rules.specs.Kinds.{kind_of}
use Rattle.problem.specs.Places.{Widths, Bounds}
use Rattle.problem.specs.declared.Fields.{Fields}
use Rattle.problem.specs.declared.Places.{Places}
use Rattle.problem.specs.declared.kinds.Kind as kinds
use Rattle.problem.specs.declared.kinds.Place as places
use Rattle.problem.specs.Named.{kind_named}
use Rattle.problem.specs.Lent.{rule_count}
use Rattle.checker.specs.Promise.{Taken}
use Rattle.checker.proofs.Rooms.{problem_taken}
use Rattle.explain.specs.Promise.{entries}
use Rattle.problem.specs.Reading.{fields_at, words_of, bounds_of_words, widths_of_words}
use Rattle.explain.proofs.Reading.{Read, question_read, is_kind, is_legal, open_refused, open_asks, open_judged}
use Rattle.explain.proofs.Calling.{rule_refused, place_refused}
use Rattle.explain.proofs.explain_proper.Goals as goal

-- question and bounds were read
read : {ws bs l : List ℕ} (n : ℕ) {κ : kinds.Kind} (p : places.Place) (j : ℕ) {k : ℕ} {x : Fields} {m : Places ℕ} {t : Bounds} {w : Widths}
    → Taken entries (length l) ws bs → n < rule_count bs → x ≡ fields_at bs n → kind_named κ ≡ kind_of x.kind → k ≡ x.k
    → m ≡ words_of x → t ≡ bounds_of_words ws m → w ≡ widths_of_words ws m
    → Read ws bs l n κ p j (record { kind = κ; k = k; w = w; place = p; bit = j }) t
read n p j {x = x} taken there ex named ek em et ew = record {
  taken = taken;
  there = there;
  kind = named ∙ ap (λ (y : Fields). kind_of y.kind) ex;
  question = question_read _ _ _ _ p _ j x _ ex ek (ew ∙ ap (widths_of_words _) em);
  bounds = et ∙ ap (bounds_of_words _) (em ∙ ap words_of ex);
}

pub returns-then-rule_count-rule : goal.returns-then-rule_count-rule
returns-then-rule_count-rule c = rule_refused _ _ _ (rw c.rule_count.ensures at c.if-rule_count-rule.true)

pub returns-in_default : goal.returns-in_default
returns-in_default c = place_refused _ _ _ c.in_default.ensures.1

pub unreachable-requires : goal.unreachable-requires
unreachable-requires c =
    c.in_default-try_from.ensures.1 (is_kind (problem_taken _ _ c.requires c.args.problem.now.fine) (rw c.rule_count.ensures at c.if-rule_count-rule.false)
    c.fields_of-x.ensures)

pub is_open-requires : goal.is_open-requires
is_open-requires c =
    is_legal (read c.args.rule c.in-Ok.place c.args.bit (problem_taken _ _ c.requires c.args.problem.now.fine)
    (rw c.rule_count.ensures at c.if-rule_count-rule.false) c.fields_of-x.ensures c.in-Ok-try_from.ensures.1 c.from.ensures
    c.words-at.ensures c.bounds_of-t.ensures c.widths_of.ensures)

pub returns-then-not-is_open : goal.returns-then-not-is_open
returns-then-not-is_open c =
    rw (← c.in-Ok.ensures)
    (open_refused (read c.args.rule c.in-Ok.place c.args.bit (problem_taken _ _ c.requires c.args.problem.now.fine)
    (rw c.rule_count.ensures at c.if-rule_count-rule.false) c.fields_of-x.ensures c.in-Ok-try_from.ensures.1 c.from.ensures
    c.words-at.ensures c.bounds_of-t.ensures c.widths_of.ensures) (refuted c.is_open.ensures c.if-not-is_open.true))

pub answered-requires : goal.answered-requires
answered-requires c =
    let k = read c.args.rule c.in-Ok.place c.args.bit (problem_taken _ _ c.requires c.args.problem.now.fine)
    (rw c.rule_count.ensures at c.if-rule_count-rule.false) c.fields_of-x.ensures c.in-Ok-try_from.ensures.1 c.from.ensures
    c.words-at.ensures c.bounds_of-t.ensures c.widths_of.ensures in
    (open_asks k (decided c.is_open.ensures c.if-not-is_open.false), k.taken.room)

pub returns : goal.returns
returns c =
    rw (← c.in-Ok.ensures)
    (open_judged (read c.args.rule c.in-Ok.place c.args.bit (problem_taken _ _ c.requires c.args.problem.now.fine)
    (rw c.rule_count.ensures at c.if-rule_count-rule.false) c.fields_of-x.ensures c.in-Ok-try_from.ensures.1 c.from.ensures
    c.words-at.ensures c.bounds_of-t.ensures c.widths_of.ensures) (decided c.is_open.ensures c.if-not-is_open.false) c.answered.ensures)
