-- All rules applied once, and again until none changes a bound: what is known before each turn, and at the end.
use mathlib.Core.Path.{◌≡◌, refl, sym, ap, ◌∙◌, fun_ext}
use mathlib.Core.Logic.{inr}
use mathlib.Core.Bool.{Bool, true, false, ◌||◌}
use mathlib.Core.List.{List}
use Prim.Native.Nat.{ℕ, suc, ◌+◌, ◌<◌}
use native.Mathlib.Numerals.{add-one}
use native.Mathlib.Omega.{arith}
use Rattle.std.proofs.Common.{None, Some}
use native.Mathlib.Decide.{ℕ_discrete}
use lib.ListN.{length}
use Rattle.words.specs.Table.{Table}
use Rattle.lists.specs.Lists.{at, series}
use Rattle.rules.specs.Tight.{rule, none_rule, TightAt, Tight}
use Rattle.rules.specs.Tightening.{Conflict}
use Rattle.rules.proofs.Propers.{proper_inside, proper_narrower}
use Rattle.rules.proofs.Held.{Held, held_trans, held_tight, held_conflict}
use Rattle.problem.specs.Lent.{word_count, widths_of, rule_count, rule_at, rules_of}
use Rattle.lists.proofs.Series.{length_series, series_at}
use Rattle.problem.proofs.Lents.{rule_at_lem}
use Rattle.tighten.specs.Memory.{table_in, chosen, Outside}
use Rattle.tighten.specs.Stepping.{Stepped}
use Rattle.tighten.proofs.Given.{Ready}
use Rattle.tighten.specs.Ready.{Applied, Listed, Swept, Settled}
use Rattle.tighten.proofs.Memory.{outside_trans}
use Rattle.tighten.proofs.Stepping.{true_false, none_some, stepped_none, stepped_then, stepped_same}

-- a table is tight for the first j rules listed in memory
pub record TightBelow (w bs l : List ℕ) (j : ℕ) (s : Table) : Type 0 where
  pub each : (k : ℕ) → k < j → TightAt w s (rule_at bs (at l (64 + k)))

tight_next : {w bs l : List ℕ} {j : ℕ} {s : Table} → TightBelow w bs l j s × TightAt w s (rule_at bs (at l (64 + j))) → TightBelow w bs l (suc j) s
tight_next {w} {bs} {l} {j} {s} x = record { each = λ k h. go k h (ℕ_discrete k j) }
  where
    go : (k : ℕ) → k < suc j → Dec (k ≡ j) → TightAt w s (rule_at bs (at l (64 + k)))
    go k h (yes e) = rw e x.1
    go k h (no d) = x.0.each k (omega arith)

tight_last : {w bs l : List ℕ} {j : ℕ} {s : Table} → TightBelow w bs l (suc j) s → TightBelow w bs l j s × TightAt w s (rule_at bs (at l (64 + j)))
tight_last x = (record { each = λ k h. x.each k (omega arith) }, x.each _ (omega arith))

-- for all of them, it is tight for the rules chosen
module _ {bs l : List ℕ} {c : ℕ} (listed : Listed bs l c) where
  rule_chosen : (k : ℕ) → k < c → rule (chosen (rules_of bs) l c) k ≡ rule_at bs (at l (64 + k))
  unfolding chosen
  rule_chosen k h = series_at none_rule c k (λ j. rule (rules_of bs) (at l (64 + j))) h ∙ rule_at_lem bs (at l (64 + k)) (listed.each k h)

  length_chosen : length (chosen (rules_of bs) l c) ≡ c
  unfolding chosen
  length_chosen = length_series c (λ j. rule (rules_of bs) (at l (64 + j)))

  tight_all : {w : List ℕ} (s : Table) → TightBelow w bs l c s → Tight w (chosen (rules_of bs) l c) s
  tight_all s x = record { each = λ k h. let g : k < c = rw length_chosen at h in rw (rule_chosen k g) (x.each k g) }

  all_tight : {w : List ℕ} (s : Table) → Tight w (chosen (rules_of bs) l c) s → TightBelow w bs l c s
  all_tight s x = record { each = λ k h. rw (rule_chosen k h) at (x.each k (rw length_chosen h)) }

-- a step without a fit, of which nothing else is said
stepped_lost : {P : Table → Type 0} {n : ℕ} {t u : Table} → Conflict P t → Stepped P n t u None
stepped_lost c = record {
  none = λ e. c;
  inside = λ e. absurd (true_false (sym e));
  all = λ e. absurd (true_false (sym e));
  same = λ e. absurd (none_some e);
  tight = λ e. absurd (none_some e);
  less = λ e. absurd (none_some e);
}

-- ---- one sweep: before rule j, from memory l to m

pub record Passing (ws bs : List ℕ) (l m : List ℕ) (changed : Bool) (j : ℕ) : Type 0 where
  pub step : Stepped (TightBelow (widths_of ws) bs l j) (word_count ws) (table_in (word_count ws) l) (table_in (word_count ws) m) (Some changed)
  pub outside : Outside (word_count ws) l m

module _ {ws bs l : List ℕ} (ready : Ready ws bs l) where
  module _ {m : List ℕ} {changed : Bool} {j c : ℕ} (x : Passing ws bs l m changed j) (listed : Listed bs l c) (less : j < c) where
    pub still_ready : Ready ws bs m
    still_ready = record {
      fine = ready.fine;
      tabled = record { room = omega (arith, ready.tabled.room, x.outside.size); table = proper_narrower ready.tabled.table (x.step.inside refl) };
    }

    still_listed : at m (64 + j) ≡ at l (64 + j)
    still_listed = x.outside.rest (64 + j) (omega (arith, ready.fine.sized.words)) (inr (omega (arith, ready.fine.sized.words)))

    pub next_listed : at m (64 + j) < rule_count bs
    next_listed = rw still_listed (listed.each j less)

    pub passing_none : {n : List ℕ} → Applied ws bs (at m (64 + j)) m n None → Swept ws bs c l n None
    passing_none y =
        let none = stepped_none (proper_inside ready.tabled.table) x.step (rw still_listed at y.step) in
        record {
          step = stepped_lost (record { nothing = λ s h. none.nothing s (tight_last (record { each = λ k q. (all_tight listed s h).each k (omega arith) })) });
          outside = outside_trans x.outside y.outside;
        }

    pub passing_step : {n : List ℕ} {d : Bool} → Applied ws bs (at m (64 + j)) m n (Some d) → Passing ws bs l n (changed || d) (j + 1)
    passing_step y = rw (add-one j) (record {
      step =
          stepped_same (λ s. tight_next) (λ s. tight_last)
          (stepped_then (proper_inside ready.tabled.table) x.step (rw still_listed at y.step));
      outside = outside_trans x.outside y.outside;
    })

  pub passing_end : {m : List ℕ} {changed : Bool} {c : ℕ} → Listed bs l c → Passing ws bs l m changed c
      → Swept ws bs c l m (Some changed)
  passing_end listed x = record { step = stepped_same (tight_all listed) (all_tight listed) x.step; outside = x.outside }

-- ---- sweeps until nothing changes: from memory l to m

pub record Settling (ws bs l m : List ℕ) (c : ℕ) : Type 0 where
  pub held : Held (Tight (widths_of ws) (chosen (rules_of bs) l c)) (table_in (word_count ws) l) (table_in (word_count ws) m)
  pub outside : Outside (word_count ws) l m

module _ {ws bs l : List ℕ} (ready : Ready ws bs l) {c : ℕ} (listed : Listed bs l c) where
  module _ {m : List ℕ} (x : Settling ws bs l m c) where
    pub settling_ready : Ready ws bs m
    settling_ready = record {
      fine = ready.fine;
      tabled = record { room = omega (arith, ready.tabled.room, x.outside.size); table = proper_narrower ready.tabled.table x.held.inside };
    }

    still : (j : ℕ) → at m (64 + j) ≡ at l (64 + j)
    still j = x.outside.rest (64 + j) (omega (arith, ready.fine.sized.words)) (inr (omega (arith, ready.fine.sized.words)))

    pub settling_listed : Listed bs m c
    settling_listed = record { room = omega (arith, listed.room, x.outside.size); each = λ j h. rw (still j) (listed.each j h) }

    -- the rules listed are the same
    same_chosen : chosen (rules_of bs) m c ≡ chosen (rules_of bs) l c
    unfolding chosen
    same_chosen = ap (series c) (fun_ext (λ j. ap (rule (rules_of bs)) (still j)))

    pub settling_none : {n : List ℕ} → Swept ws bs c m n None → Settled ws bs c l n false
    settling_none y = record {
      answer = held_conflict x.held (rw same_chosen at (y.step.none refl));
      outside = outside_trans x.outside y.outside;
    }

    module _ {n : List ℕ} {d : Bool} (y : Swept ws bs c m n (Some d)) where
      step_held : Held (Tight (widths_of ws) (chosen (rules_of bs) l c)) (table_in (word_count ws) l) (table_in (word_count ws) n)
      step_held = held_trans x.held (record { inside = y.step.inside refl; all = λ s h. y.step.all refl s (rw same_chosen h) })

      pub settling_step : Settling ws bs l n c
      settling_step = record { held = step_held; outside = outside_trans x.outside y.outside }

    pub settling_end : {n : List ℕ} → Swept ws bs c m n (Some false) → Settled ws bs c l n true
    settling_end y = record {
      answer = held_tight (step_held y) (rw (y.step.same refl) (rw same_chosen at (y.step.tight refl)));
      outside = outside_trans x.outside y.outside;
    }
