-- One rule applied to the table in memory: what its narrowing leaves, met with the bounds of its words, is a step of tightening for that rule.
use mathlib.Core.Path.{◌≡◌, refl, sym}
use mathlib.Core.Bool.{false}
use mathlib.Core.List.{List}
use Prim.Native.Nat.{ℕ, ◌≤◌, ◌<◌}
use Rattle.std.proofs.Common.{None, Some}
use lib.Bits.{bit_and, bit_or}
use lib.ListN.{length}
use Rattle.problem.specs.Reading.{rule_of}
use Rattle.words.specs.Bits.{◌⊑◌}
use Rattle.words.specs.Table.{Table, Inside}
use Rattle.lists.specs.Lists.{at}
use Rattle.rules.specs.Kinds.{Place, R, A, B, S}
use Rattle.rules.specs.Tight.{word, shape, span, TightAt}
use Rattle.rules.proofs.Held.{held_start}
use Rattle.problem.specs.Places.{Bounds, lo_of, hi_of}
use Rattle.hull.specs.Narrowing.{Leaves, Narrows}
use Rattle.hull.proofs.Laws.{unfit_conflict, left_keeps, unchanged_tight}
use Rattle.problem.specs.declared.Fields.{Fields}
use Rattle.tighten.specs.Memory.{table_in, Outside}
use Rattle.tighten.specs.Meeting.{State, untouched, met_by, met_all}
use Rattle.tighten.specs.Stepping.{Stepped}
use Rattle.tighten.proofs.Stepping.{true_false, none_some, some_same}
use Rattle.tighten.proofs.Memory.{low_at, high_at, outside_refl}
use Rattle.tighten.proofs.Meeting.{Meeting, meet_step, met_back}

-- a rule without a fit leaves memory as it was
pub unfit_stepped : (w : List ℕ) (n : ℕ) (l : List ℕ) (x : Fields) → Narrows (shape w (rule_of x)) (span (table_in n l) (rule_of x)) None
    → Stepped (λ s. TightAt w s (rule_of x)) n (table_in n l) (table_in n l) None
unfit_stepped w n l x nar = record {
  none = λ e. unfit_conflict w (table_in n l) (rule_of x) (λ s h. h) nar;
  inside = λ e. absurd (true_false (sym e));
  all = λ e. absurd (true_false (sym e));
  same = λ e. absurd (none_some e);
  tight = λ e. absurd (none_some e);
  less = λ e. absurd (none_some e);
}

module _ (w : List ℕ) (n : ℕ) (l : List ℕ) (x : Fields) (o : Bounds) (most : n ≤ 32) (room : 64 ≤ length l) (whole : Inside (table_in n l) (table_in n l))
    (below : (p : Place) → word (rule_of x) p < n) (nar : Leaves (shape w (rule_of x)) (span (table_in n l) (rule_of x)) o) where
  abbrev P : Table → Type 0
  P s = TightAt w s (rule_of x)

  kept : (p : Place) (s : Table) → P s → Inside s (table_in n l)
      → (lo_of o p ⊑ at s.lo (word (rule_of x) p)) × (at s.hi (word (rule_of x) p) ⊑ hi_of o p)
  kept = left_keeps w (table_in n l) (rule_of x) (λ s h. h) o nar

  start : Meeting P n (table_in n l) l (untouched l)
  start = record {
    none = λ g. absurd (true_false g);
    held = λ g. held_start whole;
    same = λ g. refl;
    less = λ g. absurd (true_false (sym (some_same g)));
    outside = outside_refl n l;
  }

  -- the bounds at place p met
  at_place : State → Place → State
  at_place z p = met_by z (word (rule_of x) p) (lo_of o p) (hi_of o p)

  next : (z : State) (p : Place) → Meeting P n (table_in n l) l z → Meeting P n (table_in n l) l (at_place z p)
  unfolding at_place
  next z p m = meet_step n (word (rule_of x) p) (lo_of o p) (hi_of o p) (below p) most room m (kept p) whole

  -- where nothing changed, the narrowing at p left the table's bounds
  back : (z : State) (p : Place) → Meeting P n (table_in n l) l z → (at_place z p).met ≡ Some false
      → (z.met ≡ Some false)
      × (bit_or (at (table_in n l).lo (word (rule_of x) p)) (lo_of o p) ≡ at (table_in n l).lo (word (rule_of x) p))
      × (bit_and (at (table_in n l).hi (word (rule_of x) p)) (hi_of o p) ≡ at (table_in n l).hi (word (rule_of x) p))
  unfolding at_place
  back z p m e =
      let (f, a, b) = met_back z (word (rule_of x) p) (lo_of o p) (hi_of o p) e in
      let s = m.same f in (
        f,
        rw (← s, low_at n z.memory (word (rule_of x) p) (below p)) a,
        rw (← s, high_at n z.memory (word (rule_of x) p) (below p)) b,
      )

  met : State
  met = at_place (at_place (at_place (at_place (untouched l) R) A) B) S

  meeting : Meeting P n (table_in n l) l met
  unfolding met
  meeting = next _ S (next _ B (next _ A (next _ R start)))

  tight : met.met ≡ Some false → TightAt w (table_in n l) (rule_of x)
  unfolding met
  tight e =
      let (es, ls, hs) = back _ S (next _ B (next _ A (next _ R start))) e in
      let (eb, lb, hb) = back _ B (next _ A (next _ R start)) es in
      let (ea, la, ha) = back _ A (next _ R start) eb in
      let (er, lr, hr) = back _ R start ea in
      let unchanged : (p : Place) → (bit_or (at (table_in n l).lo (word (rule_of x) p)) (lo_of o p) ≡ at (table_in n l).lo (word (rule_of x) p))
      × (bit_and (at (table_in n l).hi (word (rule_of x) p)) (hi_of o p) ≡ at (table_in n l).hi (word (rule_of x) p)) =
      λ p. elim p as (λ q. (bit_or (at (table_in n l).lo (word (rule_of x) q)) (lo_of o q) ≡ at (table_in n l).lo (word (rule_of x) q))
      × (bit_and (at (table_in n l).hi (word (rule_of x) q)) (hi_of o q) ≡ at (table_in n l).hi (word (rule_of x) q)))
      [ R ↦ (lr, hr) | A ↦ (la, ha) | B ↦ (lb, hb) | S ↦ (ls, hs) ] in
      unchanged_tight w (table_in n l) (rule_of x) o nar (λ p u. unchanged p)

  pub applied_stepped : Stepped P n (table_in n l) (table_in n (met_all (untouched l) x o).memory) (met_all (untouched l) x o).met
  unfolding met_all met at_place
  applied_stepped = record {
    none = meeting.none;
    inside = λ e. (meeting.held e).inside;
    all = λ e. (meeting.held e).all;
    same = meeting.same;
    tight = tight;
    less = meeting.less;
  }

  pub applied_outside : Outside n l (met_all (untouched l) x o).memory
  unfolding met_all met at_place
  applied_outside = meeting.outside
