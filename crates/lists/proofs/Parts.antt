-- Parts of a list: cut in two, cut again, of lists put together, and their elements.
use mathlib.Core.Path.{◌≡◌, refl, ap, ◌∙◌}
use mathlib.Core.List.{List, [], ◌∷◌, ◌++◌}
use Prim.Native.Nat.{ℕ, zero, suc, ◌+◌, ◌<◌, ◌≤◌}
use native.Mathlib.Omega.{arith}
use lib.ListN.{length, take, drop, length-take, length-drop}
use lib.Seq.{take-add, take-take, take-length, take-append-le, drop-drop, drop-append-le, drop-append-add, drop-cons, get_or-take, get_or-drop}
use Rattle.lists.specs.Lists.{at, part}

pub length_part : (l : List ℕ) (a k : ℕ) → a + k ≤ length l → length (part l a k) ≡ k
unfolding part
length_part l a k h = simp (length-take, length-drop) (omega arith)

pub short_part : (l : List ℕ) (a k : ℕ) → length (part l a k) ≤ k
unfolding part
short_part l a k = simp length-take (omega arith)

pub at_part : (l : List ℕ) (a k i : ℕ) → i < k → at (part l a k) i ≡ at l (a + i)
unfolding part
at_part l a k i h = rw (get_or-take, get_or-drop)

pub part_add : (l : List ℕ) (a k m : ℕ) → part l a (k + m) ≡ part l a k ++ part l (a + k) m
unfolding part
part_add l a k m = rw (take-add, drop-drop)

pub part_part : (l : List ℕ) (a k b m : ℕ) → b + m ≤ k → part (part l a k) b m ≡ part l (a + b) m
unfolding part
part_part l a k b m h = inner (drop a l) k b m h ∙ ap (take m) (drop-drop b a l)
  where
    inner : (x : List ℕ) (k b m : ℕ) → b + m ≤ k → take m (drop b (take k x)) ≡ take m (drop b x)
    inner x k zero m h = take-take m k x (omega arith)
    inner [] zero (suc b) m h = refl
    inner (x ∷ xs) zero (suc b) m h = absurd (omega arith)
    inner [] (suc k) (suc b) m h = refl
    inner (x ∷ xs) (suc k) (suc b) m h = inner xs k b m (omega arith)

pub part_left : (x y : List ℕ) (a k : ℕ) → a + k ≤ length x → part (x ++ y) a k ≡ part x a k
unfolding part
part_left x y a k h = rw (drop-append-le a x y (omega arith)) (take-append-le k (drop a x) y (simp length-drop (omega arith)))

pub part_right : (x y : List ℕ) (a k n : ℕ) → length x ≡ n → part (x ++ y) (n + a) k ≡ part y a k
unfolding part
part_right x y a k n h = rw (← h, drop-append-add)

pub part_all : (l : List ℕ) (n : ℕ) → length l ≡ n → part l 0 n ≡ l
unfolding part
part_all l n h = rw (← h) (take-length l)

pub part_none : (l : List ℕ) (a : ℕ) → part l a 0 ≡ []
unfolding part
part_none l a = refl

pub part_cons : (l : List ℕ) (a k : ℕ) → a < length l → part l a (suc k) ≡ at l a ∷ part l (suc a) k
unfolding part
part_cons l a k h = rw (drop-cons l a 0 h)

pub part_drop : (l : List ℕ) (a b k : ℕ) → part l (a + b) k ≡ part (drop a l) b k
unfolding part
part_drop l a b k = rw drop-drop
