-- What is read of a rule is that rule: its shape over the widths of the problem, its bounds in the table as lent; and its words are there.
use mathlib.Core.Path.{◌≡◌, refl, sym, subst, fun_ext}
use mathlib.Core.Bool.{Bool, true, false}
use mathlib.Core.List.{List}
use Prim.Native.Nat.{ℕ, ◌%◌, ◌<◌}
use native.Mathlib.Omega.{arith}
use lib.Dec.{T}
use lib.ListN.{length}
use Rattle.lists.specs.Lists.{at}
use Rattle.rules.specs.Kinds.{Place, R, A, B, S, Kind, op, rel, kind_of}
use Rattle.rules.specs.Rows.{uses}
use Rattle.rules.specs.Tight.{Rule, word, shape, span}
use Rattle.rules.specs.ProperProblem.{ProperRule}
use Rattle.problem.specs.declared.kinds.Kind as kinds
use Rattle.problem.specs.Named.{kind_named}
use Rattle.problem.specs.Lent.{stride, widths_of, table_of, rule_at}
use Rattle.problem.specs.Places.{width_of, lo_of, hi_of, span_of, shape_of}
use Rattle.problem.specs.Reading.{fields_at, rule_of, widths_of_words, widths_at, bounds_of_words, bounds_at}
use Rattle.problem.proofs.Lents.{width_at_lem, lo_at_lem, hi_at_lem}

pub rule_read : (bs : List ℕ) (n : ℕ) → rule_of (fields_at bs n) ≡ rule_at bs n
unfolding fields_at
rule_read bs n = refl

-- every kind uses a
pub uses_a : (κ : Kind) → T (uses κ A)
uses_a (op o) = tt
uses_a (rel x) = tt

-- all places of a proper rule, also those that it does not use, hold a word of the problem
pub words_below : {w : List ℕ} {ρ : Rule} → ProperRule w ρ → (p : Place) → word ρ p < length w
words_below {w} {ρ} h p = go (uses (kind_of ρ.kind) p) refl
  where
    go : (b : Bool) → uses (kind_of ρ.kind) p ≡ b → word ρ p < length w
    go true e = h.fields.used p (rw e tt)
    go false e = omega (arith, h.fields.unused p (λ u. subst T e u), h.fields.used A (uses_a (kind_of ρ.kind)))

module _ (ws bs : List ℕ) (whole : length ws % stride ≡ 0) (n : ℕ) where
  pub shape_read : (κ : kinds.Kind) → kind_named κ ≡ kind_of (fields_at bs n).kind
      → shape_of κ (fields_at bs n).k (widths_at ws (fields_at bs n)) ≡ shape (widths_of ws) (rule_at bs n)
  unfolding fields_at widths_of_words
  shape_read κ e = λ i. record { kind = e i; k = (rule_at bs n).k; width = fun_ext width i }
    where
      width : (p : Place) → width_of (widths_at ws (fields_at bs n)) p ≡ at (widths_of ws) (word (rule_at bs n) p)
      width R = sym (width_at_lem ws whole (rule_at bs n).r)
      width A = sym (width_at_lem ws whole (rule_at bs n).a)
      width B = sym (width_at_lem ws whole (rule_at bs n).b)
      width S = sym (width_at_lem ws whole (rule_at bs n).s)

  pub span_read : span_of (bounds_at ws (fields_at bs n)) ≡ span (table_of ws) (rule_at bs n)
  unfolding fields_at bounds_of_words
  span_read = λ i. record { lo = fun_ext low i; hi = fun_ext high i }
    where
      low : (p : Place) → lo_of (bounds_at ws (fields_at bs n)) p ≡ at (table_of ws).lo (word (rule_at bs n) p)
      low R = sym (lo_at_lem ws whole (rule_at bs n).r)
      low A = sym (lo_at_lem ws whole (rule_at bs n).a)
      low B = sym (lo_at_lem ws whole (rule_at bs n).b)
      low S = sym (lo_at_lem ws whole (rule_at bs n).s)

      high : (p : Place) → hi_of (bounds_at ws (fields_at bs n)) p ≡ at (table_of ws).hi (word (rule_at bs n) p)
      high R = sym (hi_at_lem ws whole (rule_at bs n).r)
      high A = sym (hi_at_lem ws whole (rule_at bs n).a)
      high B = sym (hi_at_lem ws whole (rule_at bs n).b)
      high S = sym (hi_at_lem ws whole (rule_at bs n).s)
