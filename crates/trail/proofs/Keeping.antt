-- One number of the copy kept, and a pass over the words.
use mathlib.Core.Path.{◌≡◌, refl, sym, ap, ◌∙◌}
use mathlib.Core.Bool.{Bool, cond, not}
use mathlib.Core.Logic.{◌≢◌}
use mathlib.Core.List.{List}
use Prim.Native.Nat.{ℕ, zero, suc, ◌+◌, ◌*◌, ◌≤◌, ◌<◌, ◌-◌}
use native.Mathlib.Numerals.{add-one}
use native.Mathlib.Omega.{arith}
use native.Mathlib.Decide.{ℕ_discrete, dec_lt}
use lib.Dec.{eqb}
use lib.ListN.{length, set, length-set}
use lib.Seq.{get_or-set_same, get_or-set_other}
use borrow.Author.Tests.{eq-eqb, ne_eqb}
use Rattle.words.specs.Bits.{one}
use Rattle.lists.specs.Lists.{at}
use Rattle.trail.specs.Trail.{apart, changes, copied, without, undone, Kept, Committed}
use Rattle.trail.proofs.Undoing.{undone_same, undone_last, undone_none}

pub apart_same : (x y : ℕ) → x ≡ y → apart x y ≡ 0
apart_same x y e = ap (λ (b : Bool). one (not b)) (eq-eqb x y e)

pub apart_other : (x y : ℕ) → x ≢ y → apart x y ≡ 1
apart_other x y e = ap (λ (b : Bool). one (not b)) (ne_eqb x y e)

-- ---- one number

pub kept_same : (l : List ℕ) (n k : ℕ) → at l k ≡ at l (316 + k) → Kept l n k l n
kept_same l n k e = record {
  size = refl;
  below = λ i h. refl;
  trail = λ i h g. refl;
  here = sym e;
  other = λ i h d. refl;
  back = λ b i h s. refl;
  count = omega (arith, apart_same _ _ e);
}

module _ (l : List ℕ) (n k : ℕ) (small : k < 64) (room : 380 + 2 * n + 1 < length l) where
  -- the memory after the three stores
  abbrev pub entered : List ℕ
  entered = set (set (set l (380 + 2 * n) k) (380 + 2 * n + 1) (at l (316 + k))) (316 + k) (at l k)

  untouched : (i : ℕ) → i ≢ 380 + 2 * n → i ≢ 380 + 2 * n + 1 → i ≢ 316 + k → at entered i ≡ at l i
  untouched i p q r =
      get_or-set_other (set (set l (380 + 2 * n) k) (380 + 2 * n + 1) (at l (316 + k))) (316 + k) i (at l k) 0 r
      ∙ get_or-set_other (set l (380 + 2 * n) k) (380 + 2 * n + 1) i (at l (316 + k)) 0 q ∙ get_or-set_other l (380 + 2 * n) i k 0 p

  its_place : at entered (380 + 2 * n) ≡ k
  its_place =
      get_or-set_other (set (set l (380 + 2 * n) k) (380 + 2 * n + 1) (at l (316 + k))) (316 + k) (380 + 2 * n) (at l k) 0 (omega arith)
      ∙ get_or-set_other (set l (380 + 2 * n) k) (380 + 2 * n + 1) (380 + 2 * n) (at l (316 + k)) 0 (omega arith)
      ∙ get_or-set_same l (380 + 2 * n) k 0 (omega arith)

  what_it_was : at entered (380 + 2 * n + 1) ≡ at l (316 + k)
  what_it_was =
      get_or-set_other (set (set l (380 + 2 * n) k) (380 + 2 * n + 1) (at l (316 + k))) (316 + k) (380 + 2 * n + 1) (at l k) 0 (omega arith)
      ∙ get_or-set_same (set l (380 + 2 * n) k) (380 + 2 * n + 1) (at l (316 + k)) 0 (simp length-set (omega arith))

  new_here : at entered (316 + k) ≡ at l k
  new_here =
      get_or-set_same (set (set l (380 + 2 * n) k) (380 + 2 * n + 1) (at l (316 + k))) (316 + k) (at l k) 0 (simp length-set (omega arith))

  -- the new entry taken back gives the copy as it was
  one_back : (i : ℕ) → i < 64 → without entered n (copied entered) i ≡ copied l i
  one_back i s = rw (its_place, what_it_was) (go (ℕ_discrete i k))
    where
      go : Dec (i ≡ k) → cond (eqb i k) (at l (316 + k)) (copied entered i) ≡ copied l i
      go (yes e) = rw (eq-eqb i k e, e)
      go (no d) = rw (ne_eqb i k d) (untouched (316 + i) (omega arith) (omega arith) (omega arith))

  all_back : (b i : ℕ) → b ≤ n → i < 64 → undone entered b (n + 1 - b) (copied entered) i ≡ undone l b (n - b) (copied l) i
  all_back b i h s =
      undone_last entered b n (copied entered) i h
      ∙ undone_same (n - b) b entered l (without entered n (copied entered)) (copied l)
      (λ q x y. untouched q (omega arith) (omega arith) (omega arith)) one_back i s

  pub kept_new : at l k ≢ at l (316 + k) → Kept l n k entered (n + 1)
  kept_new d = record {
    size = simp length-set refl;
    below = λ i h. untouched i (omega arith) (omega arith) (omega arith);
    trail = λ i h g. untouched i (omega arith) (omega arith) (omega arith);
    here = new_here;
    other = λ i h e. untouched (316 + i) (omega arith) (omega arith) (omega arith);
    back = all_back;
    count = omega (arith, apart_other _ _ d);
  }

-- ---- a pass

pub record Passing (b : ℕ) (l : List ℕ) (i : ℕ) (m : List ℕ) (e : ℕ) : Type 0 where
  pub done : Committed i b l m e
  pub low_left : (q : ℕ) → i ≤ q → q < 32 → copied m q ≡ copied l q
  pub high_left : (q : ℕ) → i + 32 ≤ q → q < 64 → copied m q ≡ copied l q

pub passing_start : (b : ℕ) (l : List ℕ) → Passing b l 0 l b
unfolding changes
passing_start b l = record {
  done = record {
    size = refl;
    below = λ i h. refl;
    trail = λ i h g. refl;
    low = λ i h. absurd (omega arith);
    high = λ i h. absurd (omega arith);
    back = λ i s. undone_none l b b (copied l) i (omega arith);
    count = omega arith;
  };
  low_left = λ q x y. refl;
  high_left = λ q x y. refl;
}

changes_more : (n : ℕ) (l : List ℕ) → changes (suc n) l ≡ changes n l + apart (at l n) (at l (316 + n)) + apart (at l (n + 32)) (at l (316 + (n + 32)))
unfolding changes
changes_more n l = refl

pub changes_mono : (k n : ℕ) (l : List ℕ) → k ≤ n → changes k l ≤ changes n l
changes_mono k zero l h = let e : k ≡ 0 = omega arith in rw e (omega arith)
changes_mono k (suc n) l h = go (dec_lt n k) (λ p. changes_mono k n l p)
  where
    go : Dec (n < k) → (k ≤ n → changes k l ≤ changes n l) → changes k l ≤ changes (suc n) l
    go (yes p) ih = let e : k ≡ suc n = omega arith in rw e (omega arith)
    go (no p) ih = omega (arith, ih (omega arith), changes_more n l)

-- the two bounds of word i, one after the other
module _ {b : ℕ} {l : List ℕ} {i : ℕ} {m : List ℕ} {e : ℕ} (p : Passing b l i m e) (most : i < 32) where
  pub low_apart : apart (at m i) (at m (316 + i)) ≡ apart (at l i) (at l (316 + i))
  low_apart = rw (p.done.below i (omega arith), p.low_left i (omega arith) most)

  pub low_room : (n : ℕ) → i < n → 380 + 2 * (b + changes n l) ≤ length l → 380 + 2 * (e + apart (at m i) (at m (316 + i))) ≤ length m
  low_room n h room = rw low_apart (omega (arith, p.done.size, p.done.count, changes_mono (suc i) n l h, changes_more i l))

  module _ {m' : List ℕ} {e' : ℕ} (x : Kept m e i m' e') where
    pub high_apart : apart (at m' (i + 32)) (at m' (316 + (i + 32))) ≡ apart (at l (i + 32)) (at l (316 + (i + 32)))
    high_apart =
        let s = x.below (i + 32) (omega arith) ∙ p.done.below (i + 32) (omega arith) in
        let c = x.other (i + 32) (omega arith) (omega arith) ∙ p.high_left (i + 32) (omega arith) (omega arith) in
        rw (s, c)

    pub high_room : (n : ℕ) → i < n → 380 + 2 * (b + changes n l) ≤ length l → 380 + 2 * (e' + apart (at m' (i + 32)) (at m' (316 + (i + 32)))) ≤ length m'
    high_room n h room =
        rw high_apart
        (omega (arith, x.size, p.done.size, x.count, low_apart, p.done.count, changes_mono (suc i) n l h, changes_more i l))

    module _ {m'' : List ℕ} {e'' : ℕ} (y : Kept m' e' (i + 32) m'' e'') where
      few : b ≤ e
      few = omega (arith, p.done.count)

      more : e ≤ e'
      more = omega (arith, x.count)

      -- the copy at a number that is neither of the two
      apart_from : (q : ℕ) → q < 64 → q ≢ i → q ≢ i + 32 → copied m'' q ≡ copied m q
      apart_from q s d f = y.other q s f ∙ x.other q s d

      pub passing_step : Passing b l (i + 1) m'' e''
      passing_step = record {
        done = record {
          size = y.size ∙ x.size ∙ p.done.size;
          below = λ q h. y.below q h ∙ x.below q h ∙ p.done.below q h;
          trail = λ q h g. y.trail q h (omega (arith, few, more)) ∙ x.trail q h (omega (arith, few)) ∙ p.done.trail q h g;
          low = λ q h. low q h (ℕ_discrete q i);
          high = λ q h. high q h (ℕ_discrete q i);
          back = λ q s. y.back b q (omega (arith, few, more)) s ∙ x.back b q few s ∙ p.done.back q s;
          count = rw (add-one i) (omega (arith, y.count, high_apart, x.count, low_apart, p.done.count, changes_more i l));
        };
        low_left = λ q g s. apart_from q (omega arith) (omega arith) (omega arith) ∙ p.low_left q (omega arith) s;
        high_left = λ q g s. apart_from q s (omega arith) (omega arith) ∙ p.high_left q (omega arith) s;
      }
        where
          low : (q : ℕ) → q < i + 1 → Dec (q ≡ i) → copied m'' q ≡ at l q
          low q h (yes z) = rw z (y.other i (omega arith) (omega arith) ∙ x.here ∙ p.done.below i (omega arith))
          low q h (no d) = apart_from q (omega arith) d (omega arith) ∙ p.done.low q (omega arith)

          high : (q : ℕ) → q < i + 1 → Dec (q ≡ i) → copied m'' (q + 32) ≡ at l (q + 32)
          high q h (yes z) = rw z (y.here ∙ x.below (i + 32) (omega arith) ∙ p.done.below (i + 32) (omega arith))
          high q h (no d) = apart_from (q + 32) (omega arith) (omega arith) (omega arith) ∙ p.done.high q (omega arith)
