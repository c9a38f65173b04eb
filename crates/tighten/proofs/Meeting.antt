-- Bounds in memory met with others: no table with P is lost, where they keep to these bounds, and a crossing means that there is none.
use mathlib.Core.Path.{◌≡◌, refl, sym, ap, ap₂, ◌∙◌, subst}
use mathlib.Core.Bool.{Bool, true, false, not, ◌&&◌, ◌||◌}
use mathlib.Core.List.{List}
use Prim.Native.Nat.{ℕ, ◌+◌, ◌≤◌, ◌<◌}
use native.Mathlib.Omega.{arith}
use Rattle.std.proofs.Common.{Option, None, Some, IsNone, IsSome, option_map}
use Rattle.std.specs.Bool.{then_some}
use Rattle.problem.specs.declared.Span.{Span}
use lib.Dec.{T, eqb}
use borrow.Author.Tests.{eqb-true, eqb-false}
use lib.Bits.{bit_and, bit_or}
use lib.ListN.{length, set}
use lib.Seq.{set-get_or}
use Rattle.words.specs.Bits.{under, ◌⊑◌}
use Rattle.words.specs.Table.{Table, Inside}
use Rattle.lists.specs.Lists.{at}
use Rattle.words.specs.Count.{open_below}
use Rattle.words.proofs.Meets.{⊑_or_l, and_⊑_l}
use Rattle.words.proofs.Ops.{under_sound, under_complete}
use Rattle.words.proofs.Tables.{self, table_path}
use Rattle.words.proofs.Falls.{open_less}
use Rattle.rules.specs.Tightening.{Conflict}
use Rattle.rules.proofs.Narrowed.{narrowed, narrowed_inside, narrowed_falls}
use Rattle.rules.proofs.Held.{Held}
use Rattle.hull.proofs.WrittenBack.{met_held, met_crossed}
use Rattle.tighten.specs.Memory.{table_in, Outside}
use Rattle.tighten.specs.Meeting.{State, untouched, stored, met_after, met_by}
use Rattle.tighten.proofs.Stepping.{true_false, or_false, none_some, some_same}
use Rattle.tighten.proofs.Memory.{low_at, high_at, lows, stored_table, outside_trans, outside_stored}

-- ---- a state on the way from table t

pub record Meeting (P : Table → Type 0) (n : ℕ) (t : Table) (l : List ℕ) (z : State) : Type 0 where
  pub none : IsNone z.met → Conflict P t
  pub held : IsSome z.met → Held P t (table_in n z.memory)
  pub same : z.met ≡ Some false → table_in n z.memory ≡ t
  pub less : z.met ≡ Some true → open_below n (table_in n z.memory) < open_below n t
  pub outside : Outside n l z.memory

not_false' : (a : Bool) → not a ≡ false → a ≡ true
not_false' true e = refl
not_false' false e = absurd (true_false e)

-- without a fit, memory m stays
pub lost : {P : Table → Type 0} {n : ℕ} {t : Table} {l m : List ℕ} → Conflict P t → Outside n l m → Meeting P n t l (record { met = None; memory = m })
lost c o = record { none = λ g. c; held = λ g. absurd (true_false (sym g)); same = λ g. absurd (none_some g); less = λ g. absurd (none_some g); outside = o }

-- ---- one word

module _ {P : Table → Type 0} (n : ℕ) {t : Table} {l m : List ℕ} {c : Bool} (i a b : ℕ) (below : i < n) (most : n ≤ 32) (room : 64 ≤ length l)
    (x : Meeting P n t l (record { met = Some c; memory = m })) (kept : (s : Table) → P s → Inside s t → (a ⊑ at s.lo i) × (at s.hi i ⊑ b)) where
  u : Table
  u = table_in n m

  lo : ℕ
  lo = at m i

  hi : ℕ
  hi = at m (i + 32)

  changes : Bool
  changes = c || (not (eqb (bit_or lo a) lo) || not (eqb (bit_and hi b) hi))

  low_is : at u.lo i ≡ lo
  unfolding u lo
  low_is = low_at n m i below

  high_is : at u.hi i ≡ hi
  unfolding u hi
  high_is = high_at n m i below

  -- they cross: there is none
  crossing : under (bit_or lo a) (bit_and hi b) ≡ false → Conflict P t
  unfolding u
  crossing f =
      met_crossed i a b (x.held refl) kept (λ h. subst T f (under_complete (bit_or lo a) (bit_and hi b) (rw (low_is, high_is) at h)))

  module _ (f : under (bit_or lo a) (bit_and hi b) ≡ true) where
    ok : Inside u u
    unfolding u
    ok = self (x.held refl).inside

    low : at u.lo i ⊑ bit_or lo a
    unfolding u lo
    low = rw low_is (⊑_or_l lo a)

    mid : bit_or lo a ⊑ bit_and hi b
    mid = under_sound (bit_or lo a) (bit_and hi b) (rw f tt)

    top : bit_and hi b ⊑ at u.hi i
    unfolding u hi
    top = rw high_is (and_⊑_l hi b)

    v : Table
    v = narrowed u i (bit_or lo a) (bit_and hi b)

    v_held : Held P t v
    unfolding v u
    v_held = rw (low_is, high_is) at (met_held i a b (x.held refl) kept (rw (low_is, high_is) mid))

    met_same : changes ≡ false → v ≡ t
    unfolding v u lo hi changes narrowed
    met_same e =
        let (c₁, c₂) = or_false c _ e in
        let (c₃, c₄) = or_false (not (eqb (bit_or lo a) lo)) _ c₂ in
        let p : bit_or lo a ≡ at u.lo i = eqb-true _ _ (not_false' _ c₃) ∙ sym (low_at n m i below) in
        let q : bit_and hi b ≡ at u.hi i = eqb-true _ _ (not_false' _ c₄) ∙ sym (high_at n m i below) in
        table_path (ap (set u.lo i) p ∙ set-get_or u.lo i 0) (ap (set u.hi i) q ∙ set-get_or u.hi i 0) ∙ x.same (ap Some c₁)

    met_less : Inside t t → changes ≡ true → open_below n v < open_below n t
    unfolding changes u v lo hi
    met_less whole e = go (eqb (bit_or lo a) lo) (eqb (bit_and hi b) hi) c refl refl refl
      where
        size : length u.lo ≡ n
        size = lows n m most (omega (arith, x.outside.size))

        falls : ¬ ((bit_or lo a ≡ at u.lo i) × (bit_and hi b ≡ at u.hi i)) → open_below n v < open_below n t
        falls d =
            let less = rw size at (narrowed_falls i (bit_or lo a) (bit_and hi b) ok low mid top d) in
            omega (arith, less, open_less whole (x.held refl).inside n)

        go : (p q r : Bool) → eqb (bit_or lo a) lo ≡ p → eqb (bit_and hi b) hi ≡ q → c ≡ r → open_below n v < open_below n t
        go false q r ep eq er = falls (λ d. eqb-false _ _ ep (d.0 ∙ low_at n m i below))
        go true false r ep eq er = falls (λ d. eqb-false _ _ eq (d.1 ∙ high_at n m i below))
        go true true true ep eq er = omega (arith, x.less (ap Some er), open_less ok (narrowed_inside i (bit_or lo a) (bit_and hi b) ok low mid top) n)
        go true true false ep eq er = absurd (true_false (sym e ∙ ap₂ ◌||◌ er (ap₂ (λ p q. not p || not q) ep eq)))

  -- the state after the word is met
  next_step : Inside t t → Meeting P n t l (met_after (Some c) m i a b)
  unfolding changes lo hi u v
  next_step whole = go (under (bit_or lo a) (bit_and hi b)) refl
    where
      go : (q : Bool) → under (bit_or lo a) (bit_and hi b) ≡ q → Meeting P n t l (stored q changes m i (bit_or lo a) (bit_and hi b))
      go true f = record {
        none = λ g. absurd (true_false g);
        held = λ g. rw (stored_table n m i (bit_or lo a) (bit_and hi b) below most) (v_held f);
        same = λ g. stored_table n m i (bit_or lo a) (bit_and hi b) below most ∙ met_same f (some_same g);
        less = λ g. rw (stored_table n m i (bit_or lo a) (bit_and hi b) below most) (met_less f whole (some_same g));
        outside = outside_trans x.outside (outside_stored n m i (bit_or lo a) (bit_and hi b) below most);
      }
      go false f = lost (crossing f) x.outside

pub meet_step : {P : Table → Type 0} (n : ℕ) {t : Table} {l : List ℕ} {z : State} (i a b : ℕ) → i < n → n ≤ 32 → 64 ≤ length l → Meeting P n t l z
    → ((s : Table) → P s → Inside s t → (a ⊑ at s.lo i) × (at s.hi i ⊑ b)) → Inside t t → Meeting P n t l (met_by z i a b)
unfolding met_by
meet_step {P} n {t} {l} {z} i a b below most room x kept whole = go z.met x
  where
    go : (r : Option Bool) → Meeting P n t l (record { met = r; memory = z.memory }) → Meeting P n t l (met_after r z.memory i a b)
    go None x = lost (x.none refl) x.outside
    go (Some c) x = next_step n i a b below most room x kept whole

-- ---- looking back: where nothing changed, the bounds met were no narrower

pub met_back : (z : State) (i a b : ℕ) → (met_by z i a b).met ≡ Some false
    → (z.met ≡ Some false) × (bit_or (at z.memory i) a ≡ at z.memory i) × (bit_and (at z.memory (i + 32)) b ≡ at z.memory (i + 32))
unfolding met_by
met_back z i a b e = before z.met e
  where
    lo : ℕ
    lo = bit_or (at z.memory i) a

    hi : ℕ
    hi = bit_and (at z.memory (i + 32)) b

    changes : Bool
    changes = not (eqb lo (at z.memory i)) || not (eqb hi (at z.memory (i + 32)))

    go : (c q : Bool) → (stored q (c || changes) z.memory i lo hi).met ≡ Some false
        → (Some c ≡ Some false) × (bit_or (at z.memory i) a ≡ at z.memory i) × (bit_and (at z.memory (i + 32)) b ≡ at z.memory (i + 32))
    go c true e =
        let (c₁, c₂) = or_false c _ (some_same e) in
        let (c₃, c₄) = or_false (not (eqb lo (at z.memory i))) _ c₂ in
        (ap Some c₁, eqb-true _ _ (not_false' _ c₃), eqb-true _ _ (not_false' _ c₄))
    go c false e = absurd (none_some e)

    before : (r : Option Bool) → (met_after r z.memory i a b).met ≡ Some false
        → (r ≡ Some false) × (bit_or (at z.memory i) a ≡ at z.memory i) × (bit_and (at z.memory (i + 32)) b ≡ at z.memory (i + 32))
    before None e = absurd (none_some e)
    before (Some c) e = go c (under lo hi) e

-- ---- one meeting after another, as the code has them

pub met_lost : {z : State} {m : List ℕ} (i a b : ℕ) → z ≡ record { met = None; memory = m } → met_by z i a b ≡ record { met = None; memory = m }
unfolding met_by
met_lost i a b e = rw e

pub met_then : {z : State} {c : Bool} {r : Option Bool} {l m : List ℕ} (i a b : ℕ) → z ≡ record { met = Some c; memory = l }
    → record { met = r; memory = m } ≡ met_by (untouched l) i a b → met_by z i a b ≡ record { met = option_map (λ d. c || d) r; memory = m }
unfolding met_by
met_then {c = c} {l = l} i a b e f = rw e (go (under lo hi) ∙ ap also (sym f))
  where
    lo : ℕ
    lo = bit_or (at l i) a

    hi : ℕ
    hi = bit_and (at l (i + 32)) b

    also : State → State
    also z = record { met = option_map (λ d. c || d) z.met; memory = z.memory }

    changes : Bool
    changes = not (eqb lo (at l i)) || not (eqb hi (at l (i + 32)))

    go : (q : Bool) → stored q (c || changes) l i lo hi ≡ also (stored q changes l i lo hi)
    go true = refl
    go false = refl

-- ---- what two pairs of bounds leave, as the code has it

pub span_some : (q : Bool) (x y : Span) → Some y ≡ then_some q x → (q ≡ true) × (y ≡ x)
span_some true x y e = (refl, cc)
span_some false x y e = (cc, cc)

pub span_none : (q : Bool) (x : Span) → None ≡ then_some q x → q ≡ false
span_none true x e = cc
span_none false x e = refl

-- one of two tests fails
pub not_both : (a b : Bool) → not (a && b) ≡ not a || not b
not_both true b = refl
not_both false b = refl
