-- One element of a list set: what then holds of each element, and of its beginning and its rest.
use mathlib.Core.Path.{◌≡◌, refl, ap, ◌∙◌}
use mathlib.Core.List.{List, [], ◌∷◌}
use Prim.Native.Nat.{ℕ, zero, suc, ◌+◌, ◌<◌}
use native.Mathlib.Nat.{add-zero, add-suc, le_of_suc-le-suc, suc_inj}
use native.Mathlib.Omega.{arith}
use lib.ListN.{length, take, drop, set}
use Rattle.lists.specs.Lists.{at}

-- a fact of each element, after one was replaced
pub set_all : (P : ℕ → ℕ → Type 0) (l : List ℕ) (i x : ℕ) → P i x → ((k : ℕ) → P k (at l k)) → (k : ℕ) → P k (at (set l i x) k)
set_all P [] i x p h k = h k
set_all P (y ∷ l) zero x p h zero = p
set_all P (y ∷ l) zero x p h (suc k) = h (suc k)
set_all P (y ∷ l) (suc i) x p h zero = h zero
set_all P (y ∷ l) (suc i) x p h (suc k) = set_all (λ n. P (suc n)) l i x p (λ n. h (suc n)) k

-- the same place replaced in two lists of one length
pub set_both : (P : ℕ → ℕ → Type 0) (l m : List ℕ) (i x y : ℕ) → length l ≡ length m → P x y → ((k : ℕ) → P (at l k) (at m k))
    → (k : ℕ) → P (at (set l i x) k) (at (set m i y) k)
set_both P [] [] i x y e p h k = h k
set_both P [] (b ∷ m) i x y e p h k = absurd (omega arith)
set_both P (a ∷ l) [] i x y e p h k = absurd (omega arith)
set_both P (a ∷ l) (b ∷ m) zero x y e p h zero = p
set_both P (a ∷ l) (b ∷ m) zero x y e p h (suc k) = h (suc k)
set_both P (a ∷ l) (b ∷ m) (suc i) x y e p h zero = h zero
set_both P (a ∷ l) (b ∷ m) (suc i) x y e p h (suc k) = set_both P l m i x y (suc_inj e) p (λ n. h (suc n)) k

pub take_set_lt : {A : Type 0} (n : ℕ) (l : List A) (i : ℕ) (a : A) → i < n → take n (set l i a) ≡ set (take n l) i a
take_set_lt zero l i a h = absurd (omega arith)
take_set_lt (suc n) [] i a h = refl
take_set_lt (suc n) (x ∷ l) zero a h = refl
take_set_lt (suc n) (x ∷ l) (suc i) a h = ap (λ r. x ∷ r) (take_set_lt n l i a (le_of_suc-le-suc h))

pub drop_set_add : {A : Type 0} (k : ℕ) (l : List A) (i : ℕ) (a : A) → drop k (set l (i + k) a) ≡ set (drop k l) i a
drop_set_add zero l i a = ap (λ j. set l j a) (add-zero i)
drop_set_add (suc k) [] i a = refl
drop_set_add (suc k) (x ∷ l) i a = ap (λ j. drop (suc k) (set (x ∷ l) j a)) (add-suc i k) ∙ drop_set_add k l i a
