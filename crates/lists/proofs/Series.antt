-- Series: their length, their elements, put together, cut short and mapped.
use mathlib.Core.Path.{◌≡◌, refl, sym, ap, ◌∙◌}
use mathlib.Core.List.{List, ◌∷◌, ◌++◌, map}
use Prim.Native.Nat.{ℕ, zero, suc, ◌+◌, ◌≤◌, ◌<◌}
use native.Mathlib.Nat.{zero-add, suc-add}
use native.Mathlib.Omega.{arith}
use lib.ListN.{length, take, get_or}
use lib.Seq.{ext_get_or}
use Rattle.lists.specs.Lists.{at, series}

module _ {A : Type 0} where
  pub length_series : (n : ℕ) (f : ℕ → A) → length (series n f) ≡ n
  unfolding series
  length_series zero f = refl
  length_series (suc n) f = rw (length_series n (λ i. f (suc i)))

  pub series_at : (d : A) (n i : ℕ) (f : ℕ → A) → i < n → get_or (series n f) i d ≡ f i
  unfolding series
  series_at d zero i f l = absurd (omega arith)
  series_at d (suc n) zero f l = refl
  series_at d (suc n) (suc i) f l = series_at d n i (λ j. f (suc j)) (omega arith)

-- two series that agree are one
pub series_same : {A : Type 0} (n : ℕ) (f g : ℕ → A) → ((i : ℕ) → i < n → f i ≡ g i) → series n f ≡ series n g
unfolding series
series_same zero f g h = refl
series_same (suc n) f g h = cc (h 0 (omega arith), series_same n (λ i. f (suc i)) (λ i. g (suc i)) (λ i l. h (suc i) (omega arith)))

pub series_add : {A : Type 0} (n k : ℕ) (f : ℕ → A) → series (n + k) f ≡ series n f ++ series k (λ j. f (n + j))
unfolding series
series_add zero k f = rw (zero-add k) (series_same k f (λ j. f (0 + j)) (λ j h. ap f (sym (zero-add j))))
series_add (suc n) k f =
    rw (suc-add n k)
    (ap (λ r. f 0 ∷ r) (series_add n k (λ i. f (suc i))
    ∙ ap (λ r. series n (λ i. f (suc i)) ++ r) (series_same k (λ j. f (suc (n + j))) (λ j. f (suc n + j)) (λ j h. ap f (sym (suc-add n j))))))

pub series_take : {A : Type 0} (n c : ℕ) (f : ℕ → A) → n ≤ c → take n (series c f) ≡ series n f
unfolding series
series_take zero c f h = refl
series_take (suc n) zero f h = absurd (omega arith)
series_take (suc n) (suc c) f h = ap (λ r. f 0 ∷ r) (series_take n c (λ i. f (suc i)) (omega arith))

pub series_map : {A B : Type 0} (g : A → B) (k : ℕ) (f : ℕ → A) → map g (series k f) ≡ series k (λ j. g (f j))
unfolding series
series_map g zero f = refl
series_map g (suc k) f = ap (λ r. g (f 0) ∷ r) (series_map g k (λ i. f (suc i)))

-- a list with these elements
pub series_is : (l : List ℕ) (n : ℕ) (g : ℕ → ℕ) → length l ≡ n → ((j : ℕ) → j < n → g j ≡ at l j) → series n g ≡ l
series_is l n g e h =
    ext_get_or 0 (series n g) l (length_series n g ∙ sym e) (λ j q. let q' : j < n = rw length_series at q in series_at 0 n j g q' ∙ h j q')
