-- Entries of the trail taken back: they depend on the trail and the copy alone.
use mathlib.Core.Path.{◌≡◌, refl, sym, ap, ◌∙◌}
use mathlib.Core.Logic.{inr}
use mathlib.Core.List.{List}
use Prim.Native.Nat.{ℕ, zero, suc, ◌+◌, ◌*◌, ◌≤◌, ◌<◌, ◌-◌}
use native.Mathlib.Omega.{arith}
use Rattle.lists.specs.Lists.{at}
use Rattle.trail.specs.Trail.{copied, without, undone, CopyOnly, Back, RolledBack}

-- two memories with the same entries, and numbers that agree on the copy, give the same
pub undone_same : (n b : ℕ) (l m : List ℕ) (f g : ℕ → ℕ) → ((i : ℕ) → 380 + 2 * b ≤ i → i < 380 + 2 * (b + n) → at l i ≡ at m i)
    → ((i : ℕ) → i < 64 → f i ≡ g i) → (i : ℕ) → i < 64 → undone l b n f i ≡ undone m b n g i
unfolding undone
undone_same zero b l m f g e h i s = h i s
undone_same (suc n) b l m f g e h i s =
    undone_same n b l m (without l (b + n) f) (without m (b + n) g) (λ k p q. e k p (omega arith)) (λ k r. one_step k (h k r)) i s
  where
    one_step : (k : ℕ) → f k ≡ g k → without l (b + n) f k ≡ without m (b + n) g k
    one_step k r = rw (e (380 + 2 * (b + n)) (omega arith) (omega arith), e (380 + 2 * (b + n) + 1) (omega arith) (omega arith), r)

-- the last of the entries is taken back first
pub undone_last : (l : List ℕ) (b j : ℕ) (f : ℕ → ℕ) (i : ℕ) → b ≤ j → undone l b (j + 1 - b) f i ≡ undone l b (j - b) (without l j f) i
unfolding undone
undone_last l b j f i h =
    let e : j + 1 - b ≡ suc (j - b) = omega arith in
    let s : b + (j - b) ≡ j = omega arith in
    rw e (ap (λ k. undone l b (j - b) (without l k f) i) s)

pub undone_none : (l : List ℕ) (b j : ℕ) (f : ℕ → ℕ) (i : ℕ) → j ≤ b → undone l b (j - b) f i ≡ f i
unfolding undone
undone_none l b j f i h = let e : j - b ≡ 0 = omega arith in rw e

-- ---- the way back, while the entries from b to j are still to be taken back

pub record GoingBack (b e : ℕ) (l : List ℕ) (j : ℕ) (m : List ℕ) : Type 0 where
  pub frame : CopyOnly l m
  pub copy : (i : ℕ) → i < 64 → undone l b (j - b) (copied m) i ≡ undone l b (e - b) (copied l) i

pub going_step : {b e : ℕ} {l : List ℕ} {j : ℕ} {m m' : List ℕ} → GoingBack b e l (j + 1) m → b ≤ j → Back m j m' → GoingBack b e l j m'
going_step {b} {e} {l} {j} {m} {m'} g h k = record {
  frame = record { size = k.frame.size ∙ g.frame.size; rest = λ i s. k.frame.rest i s ∙ g.frame.rest i s };
  copy = λ i s. here i s ∙ sym (undone_last l b j (copied m) i h) ∙ g.copy i s;
}
  where
    back : (i : ℕ) → i < 64 → copied m' i ≡ without l j (copied m) i
    back i s =
        let p = g.frame.rest (380 + 2 * j) (inr (omega arith)) in
        let q = g.frame.rest (380 + 2 * j + 1) (inr (omega arith)) in
        rw (← p, ← q) (k.copy i s)

    here : (i : ℕ) → i < 64 → undone l b (j - b) (copied m') i ≡ undone l b (j - b) (without l j (copied m)) i
    here i s = undone_same (j - b) b l l (copied m') (without l j (copied m)) (λ q x y. refl) back i s

pub going_end : {b e : ℕ} {l : List ℕ} {j : ℕ} {m : List ℕ} → GoingBack b e l j m → j ≤ b → RolledBack b e l m
going_end {b} {e} {l} {j} {m} g h = record { frame = g.frame; copy = λ i s. sym (undone_none l b j (copied m) i h) ∙ g.copy i s }
