-- Lists of numbers below a bound, put together of such lists.
use mathlib.Core.Path.{◌≡◌}
use mathlib.Core.List.{List, [], ◌∷◌, ◌++◌}
use Prim.Native.Nat.{ℕ, zero, suc, ◌+◌, ◌<◌, ◌-◌}
use native.Mathlib.Decide.{dec_lt}
use native.Mathlib.Omega.{arith}
use lib.ListN.{length, get_or-append, get_or-eq_default}
use lib.Seq.{get_or-append-add}
use Rattle.lists.specs.Lists.{at, part, zeros, series, flat, Under}
use Rattle.lists.proofs.Parts.{at_part, short_part}
use Rattle.lists.proofs.Pieces.{at_zeros}
use Rattle.lists.proofs.Series.{length_series, series_at}

pub under_none : (k : ℕ) → 0 < k → Under k []
under_none k p = record { each = λ i. p }

pub under_cons : (k x : ℕ) (l : List ℕ) → x < k → Under k l → Under k (x ∷ l)
under_cons k x l h u = record { each = go }
  where
    go : (i : ℕ) → at (x ∷ l) i < k
    go zero = h
    go (suc i) = u.each i

pub under_append : (k : ℕ) (l m : List ℕ) → Under k l → Under k m → Under k (l ++ m)
under_append k l m u v = record { each = λ i. go i (dec_lt i (length l)) }
  where
    go : (i : ℕ) → Dec (i < length l) → at (l ++ m) i < k
    go i (yes h) = rw (get_or-append l m 0 i h) (u.each i)
    go i (no h) = let e : i ≡ length l + (i - length l) = omega arith in rw (e, get_or-append-add l m (i - length l) 0) (v.each (i - length l))

pub under_zeros : (k n : ℕ) → 0 < k → Under k (zeros n)
under_zeros k n p = record { each = λ i. rw (at_zeros n i) p }

pub under_flat : (k n : ℕ) (f : ℕ → List ℕ) → 0 < k → ((j : ℕ) → j < n → Under k (f j)) → Under k (flat n f)
unfolding flat
under_flat k zero f p u = under_none k p
under_flat k (suc n) f p u = under_append k (flat n f) (f n) (under_flat k n f p (λ j h. u j (omega arith))) (u n (omega arith))

pub under_part : (k : ℕ) (l : List ℕ) (a m : ℕ) → 0 < k → Under k l → Under k (part l a m)
under_part k l a m p u = record { each = λ j. go j (dec_lt j m) }
  where
    go : (j : ℕ) → Dec (j < m) → at (part l a m) j < k
    go j (yes h) = rw (at_part l a m j h) (u.each (a + j))
    go j (no h) = rw (get_or-eq_default (part l a m) 0 {n = j} (omega (arith, short_part l a m))) p

pub under_series : (k n : ℕ) (g : ℕ → ℕ) → 0 < k → ((j : ℕ) → j < n → g j < k) → Under k (series n g)
under_series k n g p h = record { each = λ j. go j (dec_lt j n) }
  where
    go : (j : ℕ) → Dec (j < n) → at (series n g) j < k
    go j (yes l) = rw (series_at 0 n j g l) (h j l)
    go j (no l) = rw (get_or-eq_default (series n g) 0 {n = j} (rw length_series (omega arith))) p
