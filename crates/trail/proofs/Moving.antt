-- A table moved word by word.
use mathlib.Core.Path.{◌≡◌, refl, ◌∙◌}
use mathlib.Core.Logic.{◌⊎◌, inl, inr, ◌≢◌}
use mathlib.Core.List.{List}
use Prim.Native.Nat.{ℕ, ◌+◌, ◌≤◌, ◌<◌}
use native.Mathlib.Omega.{arith}
use native.Mathlib.Decide.{ℕ_discrete}
use lib.ListN.{length, set, length-set}
use lib.Seq.{get_or-set_same, get_or-set_other}
use Rattle.lists.specs.Lists.{at}
use Rattle.trail.specs.Trail.{Moved}

pub moved_start : (from to : ℕ) (l : List ℕ) → Moved 0 from to l l
moved_start from to l = record { size = refl; low = λ i h. absurd (omega arith); high = λ i h. absurd (omega arith); rest = λ i h. refl }

module _ {i from to : ℕ} {l m : List ℕ} (x : Moved i from to l m) (small : i < 32)
    (room : to + 64 ≤ length l) (far : (from + 64 ≤ to) ⊎ (to + 64 ≤ from)) where
  -- what is read has not been written yet
  read_low : at m (from + i) ≡ at l (from + i)
  read_low = x.rest (from + i) (side far)
    where
      side : (from + 64 ≤ to) ⊎ (to + 64 ≤ from) → (from + i < to) ⊎ (to + 64 ≤ from + i)
      side (inl h) = inl (omega arith)
      side (inr h) = inr (omega arith)

  read_high : at m (from + 32 + i) ≡ at l (from + 32 + i)
  read_high = x.rest (from + 32 + i) (side far)
    where
      side : (from + 64 ≤ to) ⊎ (to + 64 ≤ from) → (from + 32 + i < to) ⊎ (to + 64 ≤ from + 32 + i)
      side (inl h) = inl (omega arith)
      side (inr h) = inr (omega arith)

  module _ (a b : ℕ) (lo : a ≡ at l (from + i)) (hi : b ≡ at l (from + 32 + i)) where
    n : List ℕ
    n = set (set m (to + i) a) (to + 32 + i) b

    other : (k : ℕ) → k ≢ to + i → k ≢ to + 32 + i → at n k ≡ at m k
    unfolding n
    other k d e = get_or-set_other (set m (to + i) a) (to + 32 + i) k b 0 e ∙ get_or-set_other m (to + i) k a 0 d

    low_here : at n (to + i) ≡ at l (from + i)
    unfolding n
    low_here = get_or-set_other (set m (to + i) a) (to + 32 + i) (to + i) b 0 (omega arith) ∙ get_or-set_same m (to + i) a 0 (omega (arith, x.size)) ∙ lo

    high_here : at n (to + 32 + i) ≡ at l (from + 32 + i)
    unfolding n
    high_here = get_or-set_same (set m (to + i) a) (to + 32 + i) b 0 (simp length-set (omega (arith, x.size))) ∙ hi

    turn : Moved (i + 1) from to l (set (set m (to + i) a) (to + 32 + i) b)
    unfolding n
    turn = record {
      size = length-set (set m (to + i) a) (to + 32 + i) b ∙ length-set m (to + i) a ∙ x.size;
      low = λ k h. low k h (ℕ_discrete k i);
      high = λ k h. high k h (ℕ_discrete k i);
      rest = λ k h. rest k h;
    }
      where
        low : (k : ℕ) → k < i + 1 → Dec (k ≡ i) → at n (to + k) ≡ at l (from + k)
        low k h (yes e) = rw e low_here
        low k h (no d) = other (to + k) (omega arith) (omega arith) ∙ x.low k (omega arith)

        high : (k : ℕ) → k < i + 1 → Dec (k ≡ i) → at n (to + 32 + k) ≡ at l (from + 32 + k)
        high k h (yes e) = rw e high_here
        high k h (no d) = other (to + 32 + k) (omega arith) (omega arith) ∙ x.high k (omega arith)

        rest : (k : ℕ) → (k < to) ⊎ (to + 64 ≤ k) → at n k ≡ at l k
        rest k (inl h) = other k (omega arith) (omega arith) ∙ x.rest k (inl h)
        rest k (inr h) = other k (omega arith) (omega arith) ∙ x.rest k (inr h)

  -- one word more, as the code reads and writes it
  pub moved_turn :
      Moved (i + 1) from to l
      (set (set m (to + i) (at m (from + i))) (to + 32 + i) (at (set m (to + i) (at m (from + i))) (from + 32 + i)))
  moved_turn =
      turn (at m (from + i)) (at (set m (to + i) (at m (from + i))) (from + 32 + i)) read_low
      (get_or-set_other m (to + i) (from + 32 + i) (at m (from + i)) 0 (clear far) ∙ read_high)
    where
      clear : (from + 64 ≤ to) ⊎ (to + 64 ≤ from) → from + 32 + i ≢ to + i
      clear (inl h) = omega arith
      clear (inr h) = omega arith
