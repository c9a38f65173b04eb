-- Pieces one after the other, zeros, and numbers added up.
use mathlib.Core.Path.{◌≡◌, refl, sym, ap, ◌∙◌}
use mathlib.Core.Logic.{◌≢◌}
use mathlib.Core.List.{List, [], ◌∷◌, ◌++◌, append_assoc, append-nil}
use Prim.Native.Nat.{ℕ, zero, suc, ◌+◌, ◌*◌, ◌<◌}
use native.Mathlib.Nat.{mul-suc, mul-zero, add-zero, add-suc}
use native.Mathlib.Decide.{dec_lt}
use native.Mathlib.Omega.{arith}
use lib.ListN.{length, length-append, length-replicate}
use Rattle.lists.specs.Lists.{at, part, zeros, flat, total}
use Rattle.lists.proofs.Parts.{part_add, part_all, part_left, part_none, part_right}

-- ---- pieces

pub flat_none : (f : ℕ → List ℕ) → flat 0 f ≡ []
unfolding flat
flat_none f = refl

pub flat_more : (n : ℕ) (f : ℕ → List ℕ) → flat (suc n) f ≡ flat n f ++ f n
unfolding flat
flat_more n f = refl

pub flat_same : (n : ℕ) (f g : ℕ → List ℕ) → ((j : ℕ) → j < n → f j ≡ g j) → flat n f ≡ flat n g
unfolding flat
flat_same zero f g h = refl
flat_same (suc n) f g h = let e = flat_same n f g (λ j l. h j (omega arith)) in rw (e, h n (omega arith))

pub length_flat : (n k : ℕ) (f : ℕ → List ℕ) → ((j : ℕ) → j < n → length (f j) ≡ k) → length (flat n f) ≡ k * n
unfolding flat
length_flat zero k f h = rw mul-zero
length_flat (suc n) k f h = let e = length_flat n k f (λ j l. h j (omega arith)) in rw (length-append, e, h n (omega arith), mul-suc)

-- the first k * n elements from place a on are n parts of k
pub flat_parts : (l : List ℕ) (a k n : ℕ) → part l a (k * n) ≡ flat n (λ j. part l (a + k * j) k)
unfolding flat
flat_parts l a k zero = rw mul-zero (part_none l a)
flat_parts l a k (suc n) = rw (mul-suc, part_add l a (k * n) k, flat_parts l a k n)

last_flat : (n k : ℕ) (f : ℕ → List ℕ) (r : List ℕ) → ((j : ℕ) → j < suc n → length (f j) ≡ k)
    → part (flat n f ++ (f n ++ r)) (k * n) k ≡ f n
last_flat n k f r h =
    let e = part_right (flat n f) (f n ++ r) 0 k (k * n) (length_flat n k f (λ j l. h j (omega arith))) in
    rw add-zero at e ∙ part_left (f n) r 0 k (rw (h n (omega arith)) (omega arith)) ∙ part_all (f n) k (h n (omega arith))

-- piece j of k elements each, whatever follows
pub part_flat : (n k : ℕ) (f : ℕ → List ℕ) (r : List ℕ) → ((j : ℕ) → j < n → length (f j) ≡ k)
    → (j : ℕ) → j < n → part (flat n f ++ r) (k * j) k ≡ f j
unfolding flat
part_flat zero k f r h j l = absurd (omega arith)
part_flat (suc n) k f r h j l =
    rw append_assoc (go (dec_lt j n) (λ l'. part_flat n k f (f n ++ r) (λ j l. h j (omega arith)) j l'))
  where
    go : Dec (j < n) → (j < n → part (flat n f ++ (f n ++ r)) (k * j) k ≡ f j) → part (flat n f ++ (f n ++ r)) (k * j) k ≡ f j
    go (yes l') ih = ih l'
    go (no l') ih = let e : j ≡ n = omega arith in rw e (last_flat n k f r h)

-- pieces of one length that make one list are the same
pub flat_pieces : (n k : ℕ) (f g : ℕ → List ℕ) → ((j : ℕ) → j < n → length (f j) ≡ k) → ((j : ℕ) → j < n → length (g j) ≡ k)
    → flat n f ≡ flat n g → (j : ℕ) → j < n → f j ≡ g j
flat_pieces n k f g p q e j h =
    sym (part_flat n k f [] p j h) ∙ ap (λ t. part (t ++ []) (k * j) k) e ∙ part_flat n k g [] q j h

pub flat_add : (m k : ℕ) (f : ℕ → List ℕ) → flat (m + k) f ≡ flat m f ++ flat k (λ x. f (m + x))
flat_add m zero f =
    ap (λ k. flat k f) (add-zero m) ∙ sym (ap (λ t. flat m f ++ t) (flat_none (λ x. f (m + x))) ∙ append-nil (flat m f))
flat_add m (suc k) f =
    ap (λ j. flat j f) (add-suc m k)
    ∙ flat_more (m + k) f
    ∙ ap (λ t. t ++ f (m + k)) (flat_add m k f)
    ∙ append_assoc (flat m f) (flat k (λ x. f (m + x))) (f (m + k))
    ∙ sym (ap (λ t. flat m f ++ t) (flat_more k (λ x. f (m + x))))

-- n pieces of k pieces each
pub flat_flat : (k n : ℕ) (f : ℕ → List ℕ) → flat (k * n) f ≡ flat n (λ j. flat k (λ x. f (k * j + x)))
flat_flat k zero f = rw mul-zero (flat_none f ∙ sym (flat_none (λ j. flat k (λ x. f (k * j + x)))))
flat_flat k (suc n) f =
    rw (mul-suc, flat_more n (λ j. flat k (λ x. f (k * j + x)))) (flat_add (k * n) k f ∙ ap (λ t. t ++ flat k (λ x. f (k * n + x))) (flat_flat k n f))

-- ---- zeros

pub length_zeros : (k : ℕ) → length (zeros k) ≡ k
unfolding zeros
length_zeros k = length-replicate k 0

pub at_zeros : (k i : ℕ) → at (zeros k) i ≡ 0
unfolding zeros
at_zeros zero i = refl
at_zeros (suc k) zero = refl
at_zeros (suc k) (suc i) = at_zeros k i

pub all_zeros : (l : List ℕ) → ((i : ℕ) → i < length l → at l i ≡ 0) → l ≡ zeros (length l)
unfolding zeros
all_zeros [] h = refl
all_zeros (x ∷ xs) h = let e = all_zeros xs (λ i l. h (suc i) (omega arith)) in cc (h 0 (omega arith))

-- ---- totals

pub total_none : (g : ℕ → ℕ) → total 0 g ≡ 0
unfolding total
total_none g = refl

pub total_more : (n : ℕ) (g : ℕ → ℕ) → total (suc n) g ≡ total n g + g n
unfolding total
total_more n g = refl

pub total_same : (n : ℕ) (g k : ℕ → ℕ) → ((j : ℕ) → j < n → g j ≡ k j) → total n g ≡ total n k
unfolding total
total_same zero g k h = refl
total_same (suc n) g k h = let e = total_same n g k (λ j l. h j (omega arith)) in rw (e, h n (omega arith))

-- two sums that differ at one place
pub total_one : (n : ℕ) (g k : ℕ → ℕ) (i : ℕ) → i < n → ((j : ℕ) → j ≢ i → g j ≡ k j) → total n g + k i ≡ total n k + g i
unfolding total
total_one zero g k i l h = absurd (omega arith)
total_one (suc n) g k i l h = go (dec_lt i n) (λ l'. total_one n g k i l' h)
  where
    go : Dec (i < n) → (i < n → total n g + k i ≡ total n k + g i) → total n g + g n + k i ≡ total n k + k n + g i
    go (yes l') ih = omega (arith, ih l', h n (λ e. omega arith))
    go (no l') ih = let e : i ≡ n = omega arith in rw e (omega (arith, total_same n g k (λ j q. h j (λ e'. omega arith))))
