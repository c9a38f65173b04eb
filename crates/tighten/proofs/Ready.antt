-- A rule of a ready problem: its words are there, its narrowing may be asked for, and that narrowing is one over the table in memory.
use mathlib.Core.Path.{◌≡◌, sym, ap, subst, fun_ext}
use mathlib.Core.Bool.{Bool}
use mathlib.Core.List.{List}
use Prim.Native.Nat.{ℕ, ◌≤◌, ◌<◌}
use native.Mathlib.Omega.{arith}
use Rattle.std.proofs.Common.{Option, None, Some}
use lib.ListN.{length}
use Rattle.problem.proofs.Readings.{shape_read, words_below}
use Rattle.lists.specs.Lists.{at}
use Rattle.rules.specs.Kinds.{Place, R, A, B, S, kind_of}
use Rattle.problem.specs.Places.{Bounds, Widths, lo_of, hi_of, shape_of, span_of}
use Rattle.rules.specs.Fits.{Legal}
use Rattle.rules.specs.Tight.{Rule, word, shape, span}
use Rattle.rules.specs.ProperProblem.{KindNumber, ProperRule}
use Rattle.rules.proofs.ProperRules.{rule_legal}
use Rattle.rules.proofs.Propers.{proper_inside}
use Rattle.problem.specs.declared.kinds.Kind as kinds
use Rattle.problem.specs.Named.{kind_named}
use Rattle.hull.specs.Narrowing.{Leaves, Narrows}
use Rattle.problem.specs.Lent.{word_count, width_at, widths_of, rule_count, rule_at}
use Rattle.lists.proofs.Series.{length_series}
use Rattle.problem.proofs.Lents.{rule_at_lem}
use Rattle.tighten.specs.Memory.{table_in}
use Rattle.problem.specs.declared.Fields.{Fields}
use Rattle.tighten.specs.Meeting.{State, untouched, work_bounds, met_all}
use Rattle.problem.specs.Reading.{fields_at, widths_at, rule_of}
use Rattle.tighten.specs.Ready.{Applied}
use Rattle.tighten.proofs.Given.{Ready}
use Rattle.tighten.proofs.Memory.{low_at, high_at, outside_refl}
use Rattle.tighten.proofs.Applying.{unfit_stepped, applied_stepped, applied_outside}

module _ {ws bs l : List ℕ} (ready : Ready ws bs l) (j : ℕ) (listed : j < rule_count bs) where
  proper : ProperRule (widths_of ws) (rule_at bs j)
  proper = rw (rule_at_lem bs j listed) at (ready.fine.problem.each j (rw length_series listed))

  pub below : (p : Place) → word (rule_at bs j) p < word_count ws
  below p = rw (length_series (word_count ws) (width_at ws)) at (words_below proper p)

  module _ (κ : kinds.Kind) (named : kind_named κ ≡ kind_of (fields_at bs j).kind) where
    shape_same : shape_of κ (fields_at bs j).k (widths_at ws (fields_at bs j)) ≡ shape (widths_of ws) (rule_at bs j)
    shape_same = shape_read ws bs ready.fine.sized.whole_words j κ named

  span_same : span_of (work_bounds l (fields_at bs j)) ≡ span (table_in (word_count ws) l) (rule_at bs j)
  unfolding fields_at
  span_same = λ i. record { lo = fun_ext low i; hi = fun_ext high i }
    where
      low : (p : Place) → lo_of (work_bounds l (fields_at bs j)) p ≡ at (table_in (word_count ws) l).lo (word (rule_at bs j) p)
      low R = sym (low_at (word_count ws) l (rule_at bs j).r (below R))
      low A = sym (low_at (word_count ws) l (rule_at bs j).a (below A))
      low B = sym (low_at (word_count ws) l (rule_at bs j).b (below B))
      low S = sym (low_at (word_count ws) l (rule_at bs j).s (below S))

      high : (p : Place) → hi_of (work_bounds l (fields_at bs j)) p ≡ at (table_in (word_count ws) l).hi (word (rule_at bs j) p)
      high R = sym (high_at (word_count ws) l (rule_at bs j).r (below R))
      high A = sym (high_at (word_count ws) l (rule_at bs j).a (below A))
      high B = sym (high_at (word_count ws) l (rule_at bs j).b (below B))
      high S = sym (high_at (word_count ws) l (rule_at bs j).s (below S))

  -- its kind is one of the fourteen
  pub kind_known : KindNumber (fields_at bs j).kind
  unfolding fields_at
  kind_known = proper.kind

  module _ (κ : kinds.Kind) (named : kind_named κ ≡ kind_of (fields_at bs j).kind) where
    -- its narrowing may be asked for
    pub askable : Legal (shape_of κ (fields_at bs j).k (widths_at ws (fields_at bs j))) (span_of (work_bounds l (fields_at bs j)))
    askable = rw (shape_same κ named, span_same) (rule_legal ready.tabled.table proper)

    -- and is one over the table
    pub narrows : (o : Option Bounds)
        → Narrows (shape_of κ (fields_at bs j).k (widths_at ws (fields_at bs j))) (span_of (work_bounds l (fields_at bs j))) o
        → Narrows (shape (widths_of ws) (rule_at bs j)) (span (table_in (word_count ws) l) (rule_at bs j)) o
    narrows o h = rw (shape_same κ named, span_same) at h

-- ---- the same, of what the code has in its locals

module _ {ws bs l : List ℕ} (ready : Ready ws bs l) (j : ℕ) (listed : j < rule_count bs) (x : Fields) (read : x ≡ fields_at bs j) where
  word_below : (p : Place) → word (rule_of x) p < word_count ws
  unfolding fields_at
  word_below = rw read (below ready j listed)

  pub small : (x.r < 32) × (x.a < 32) × (x.b < 32) × (x.s < 32) × (64 ≤ length l)
  small =
      let c = ready.fine.sized.words in
      (omega (arith, word_below R), omega (arith, word_below A), omega (arith, word_below B), omega (arith, word_below S), ready.tabled.room)

  pub kind_read : KindNumber x.kind
  kind_read = rw read (kind_known ready j listed)

  module _ (κ : kinds.Kind) (named : kind_named κ ≡ kind_of x.kind) (w : Widths) (t : Bounds) (wide : w ≡ widths_at ws x) (bounds : t ≡ work_bounds l x) where
    named_read : kind_named κ ≡ kind_of (fields_at bs j).kind
    named_read = rw read at named

    pub asked : Legal (shape_of κ x.k w) (span_of t)
    asked = rw (wide, bounds, read) (askable ready j listed κ named_read)

    over_table : (o : Option Bounds) → Narrows (shape_of κ x.k w) (span_of t) o
        → Narrows (shape (widths_of ws) (rule_of x)) (span (table_in (word_count ws) l) (rule_of x)) o
    unfolding fields_at
    over_table o h =
        let same : rule_of x ≡ rule_at bs j = ap rule_of read in
        subst (λ (ρ : Rule). Narrows (shape (widths_of ws) ρ) (span (table_in (word_count ws) l) ρ) o) (sym same)
        (narrows ready j listed κ named_read o (rw (wide, bounds, read) at h))

    -- the narrowing has no fit, or the bounds that it leaves are met
    pub applied_none : Narrows (shape_of κ x.k w) (span_of t) None → Applied ws bs j l l None
    unfolding fields_at
    applied_none h =
        let same : rule_of x ≡ rule_at bs j = ap rule_of read in
        record { step = rw (← same) (unfit_stepped (widths_of ws) (word_count ws) l x (over_table None h)); outside = outside_refl (word_count ws) l }

    pub applied_met : (o : Bounds) → Leaves (shape_of κ x.k w) (span_of t) o → (r : Option Bool) (m : List ℕ)
        → record { met = r; memory = m } ≡ met_all (untouched l) x o → Applied ws bs j l m r
    unfolding fields_at
    applied_met o h r m e =
        let same : rule_of x ≡ rule_at bs j = ap rule_of read in
        let n = over_table (Some o) h in
        let whole = proper_inside ready.tabled.table in
        subst (λ (s : State). Applied ws bs j l s.memory s.met) (sym e)
        (record {
          step = rw (← same) (applied_stepped (widths_of ws) (word_count ws) l x o ready.fine.sized.words ready.tabled.room whole word_below n);
          outside = applied_outside (widths_of ws) (word_count ws) l x o ready.fine.sized.words ready.tabled.room whole word_below n;
        })
