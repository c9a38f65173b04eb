-- What is read from lent numbers: the question and the bounds are those of the rule's own places over the table as given.
use mathlib.Core.Path.{◌≡◌, sym, ap, ◌∙◌}
use mathlib.Core.List.{List}
use Prim.Native.Nat.{ℕ, ◌<◌}
use native.Mathlib.Omega.{arith}
use lib.ListN.{length}
use Rattle.problem.specs.declared.Fields.{Fields}
use Rattle.problem.specs.declared.kinds.Kind as kinds
use Rattle.problem.specs.declared.kinds.Place as places
use Rattle.problem.specs.Named.{kind_named, place_number}
use Rattle.problem.proofs.Readings.{shape_read, span_read}
use Rattle.problem.specs.Reading.{fields_at, bounds_at, widths_at}
use Rattle.checker.specs.Promise.{Taken}
use Rattle.rules.specs.Kinds.{kind_of}
use Rattle.rules.specs.Fits.{Uses, Legal}
use Rattle.rules.specs.Tight.{rule, shape, span}
use Rattle.rules.specs.ProperProblem.{KindNumber, ProperRule}
use Rattle.rules.proofs.ProperRules.{rule_legal}
use Rattle.problem.specs.Lent.{widths_of, table_of, rule_count, rule_at, rules_of}
use Rattle.lists.proofs.Series.{length_series}
use Rattle.problem.proofs.Lents.{rule_at_lem}
use Rattle.problem.specs.Places.{Widths, Bounds, span_of}
use Rattle.explain.specs.declared.Question.{Question}
use Rattle.explain.specs.declared.Explained.{Explained}
use Rattle.std.specs.Prelude.{Ok, Err}
use Rattle.checker.specs.declared.refusal.Refusal.TheVariants.{Ask}
use Rattle.explain.specs.Asking.{shape_in, place_in, OpenBit, Asks}
use Rattle.explain.specs.Reading.{question_in}
use Rattle.explain.proofs.PlaceNumbers.{named}
use Rattle.explain.specs.Promise.{Explanation, Judged, not_asked, answered, entries}

pub question_read : (ws bs : List ℕ) (n : ℕ) (κ : kinds.Kind) (p : places.Place) (k j : ℕ) (x : Fields) (w : Widths) → x ≡ fields_at bs n → k ≡ x.k
    → w ≡ widths_at ws x → record { kind = κ; k = k; w = w; place = p; bit = j } ≡ question_in ws bs n κ p j
unfolding question_in
question_read ws bs n κ p k j x w ex ek ew = rw (ew, ek, ex)

-- question and bounds are those of rule n of a proper problem
pub record Read (ws bs l : List ℕ) (n : ℕ) (κ : kinds.Kind) (p : places.Place) (j : ℕ) (q : Question) (t : Bounds) : Type 0 where
  pub taken : Taken entries (length l) ws bs
  pub there : n < rule_count bs
  pub kind : kind_named κ ≡ kind_of (fields_at bs n).kind
  pub question : q ≡ question_in ws bs n κ p j
  pub bounds : t ≡ bounds_at ws (fields_at bs n)

module _ {needed lent : ℕ} {ws bs : List ℕ} (taken : Taken needed lent ws bs) {n : ℕ} (there : n < rule_count bs) where
  proper : ProperRule (widths_of ws) (rule_at bs n)
  proper = rw (rule_at_lem bs n there) at (taken.problem.each n (rw length_series there))

  pub is_kind : {x : Fields} → x ≡ fields_at bs n → KindNumber x.kind
  unfolding fields_at
  is_kind e = rw e proper.kind

module _ {ws bs l : List ℕ} {n : ℕ} {κ : kinds.Kind} {p : places.Place} {j : ℕ} {q : Question} {t : Bounds} (k : Read ws bs l n κ p j q t) where
  shape_same : shape_in q ≡ shape (widths_of ws) (rule (rules_of bs) n)
  unfolding question_in
  shape_same =
      ap shape_in k.question ∙ shape_read ws bs k.taken.sized.whole_words n κ k.kind ∙ ap (shape (widths_of ws)) (sym (rule_at_lem bs n k.there))

  span_same : span_of t ≡ span (table_of ws) (rule (rules_of bs) n)
  span_same = ap span_of k.bounds ∙ span_read ws bs k.taken.sized.whole_words n ∙ ap (span (table_of ws)) (sym (rule_at_lem bs n k.there))

  pub is_legal : Legal (shape_in q) (span_of t)
  is_legal = rw (shape_same, span_same, rule_at_lem bs n k.there) (rule_legal k.taken.problem.table (proper k.taken k.there))

  -- the question names no open bit
  pub open_refused : ¬ OpenBit (shape_in q) (span_of t) (place_number q.place) q.bit → Judged ws bs n (place_number p) j l (Err Ask) l
  unfolding question_in
  open_refused d = not_asked (λ a. d (rw (shape_same, span_same, k.question) a.open_bit))

  module _ (o : OpenBit (shape_in q) (span_of t) (place_number q.place) q.bit) where
    pub open_asks : Asks q t
    open_asks =
        let used : Uses (shape_in q) (place_in q) = rw (named q.place) at o.used in
        record {
          legal = is_legal;
          used = used;
          small = omega (arith, rw (named q.place) at o.below, (is_legal.width (place_in q) used).high);
        }

    pub open_judged : {r : Explained} {m : List ℕ} → Explanation (shape_in q) (span_of t) (place_in q) q.bit l r m
        → Judged ws bs n (place_number p) j l (Ok r) m
    unfolding question_in
    open_judged g =
        answered (record { there = k.there; open_bit = rw (shape_same, span_same, k.question) at o })
        (rw (named p) (rw (shape_same, span_same, k.question) at g))
