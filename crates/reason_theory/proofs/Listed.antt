-- What a reason lists: ascending entries, each below 256, at most 193 of them.
use mathlib.Core.List.{List, [], ◌∷◌}
use Prim.Native.Nat.{ℕ, zero, suc, ◌≤◌, ◌<◌}
use native.Mathlib.Nat.{le_trans}
use native.Mathlib.Omega.{arith}
use lib.ListN.{length}
use Rattle.lists.specs.Lists.{at}
use Rattle.rules.specs.Kinds.{Place, R, A, B, S}
use Rattle.rules.specs.Meaning.{Shape}
use Rattle.rules.specs.Fits.{Span, Uses, Legal}
use Rattle.reason_theory.specs.Says.{Answer}
use Rattle.reason_theory.specs.Reason.{Spot, entry, Reason, all_seen, dropped, kept, Explains, no_reason, with_reason}
use Rattle.reason_theory.proofs.Rising.{Rising, no_more, next, fixed_rising, fixed_length}

-- numbers below 256 that ascend, from n on
pub data Ascending : ℕ → List ℕ → Type 0 where
  at_end : {n : ℕ} → Ascending n []
  then : {n m : ℕ} {l : List ℕ} → n ≤ m → m < 256 → Ascending (suc m) l → Ascending n (m ∷ l)

ascending_from : {m n : ℕ} {l : List ℕ} → m ≤ n → Ascending n l → Ascending m l
ascending_from h at_end = at_end
ascending_from h (then k b r) = then (le_trans h k) b r

entry_lt : (q : Place) (b : ℕ) → b < 64 → entry q b < 256
entry_lt R b l = omega arith
entry_lt A b l = omega arith
entry_lt B b l = omega arith
entry_lt S b l = omega arith

module _ {σ : Shape} (wide : (q : Place) → Uses σ q → σ.width q ≤ 64) where
  pub kept_ascend : {p : Place} {j n : ℕ} {x : Answer} {t : Span} {ns : List Spot} {out : List ℕ} → Rising σ n ns → Reason σ p j x t ns out → Ascending n out
  kept_ascend no_more all_seen = at_end
  kept_ascend (next u w h r) (dropped s d) = ascending_from (omega arith) (kept_ascend r d)
  kept_ascend (next {b = b} {q = q} u w h r) (kept s d) = then h (entry_lt q b (omega (arith, wide q u))) (kept_ascend r d)

from_n : {n : ℕ} {l : List ℕ} → Ascending n l → (k : ℕ) → k < length l → n ≤ at l k
from_n at_end k h = absurd (omega arith)
from_n (then m b r) zero h = m
from_n (then m b r) (suc k) h = omega (arith, from_n r k (omega arith))

ascending_lt : {n : ℕ} {l : List ℕ} → Ascending n l → (i k : ℕ) → i < k → k < length l → at l i < at l k
ascending_lt at_end i k h e = absurd (omega arith)
ascending_lt (then m b r) i zero h e = absurd (omega arith)
ascending_lt (then m b r) zero (suc k) h e = from_n r k (omega arith)
ascending_lt (then m b r) (suc i) (suc k) h e = ascending_lt r i k (omega arith) (omega arith)

ascending_below : {n : ℕ} {l : List ℕ} → Ascending n l → (k : ℕ) → k < length l → at l k < 256
ascending_below at_end k h = absurd (omega arith)
ascending_below (then m b r) zero h = b
ascending_below (then m b r) (suc k) h = ascending_below r k (omega arith)

kept_length : {σ : Shape} {p : Place} {j : ℕ} {x : Answer} {t : Span} {ns : List Spot} {out : List ℕ} → Reason σ p j x t ns out → length out ≤ length ns
kept_length all_seen = omega arith
kept_length (dropped s d) = omega (arith, kept_length d)
kept_length (kept s d) = omega (arith, kept_length d)

module _ {σ : Shape} {t : Span} (h : Legal σ t) where
  ascend : {p : Place} {j : ℕ} {x : Answer} {out : List ℕ} → Explains σ t p j x out → Ascending 0 out
  ascend (no_reason s) = at_end
  ascend (with_reason n s r) = kept_ascend (λ q u. (h.width q u).high) (fixed_rising h) r

  pub reason_ascending : {p : Place} {j : ℕ} {x : Answer} {out : List ℕ} → Explains σ t p j x out → (i k : ℕ) → i < k → k < length out → at out i < at out k
  reason_ascending e = ascending_lt (ascend e)

  pub reason_below : {p : Place} {j : ℕ} {x : Answer} {out : List ℕ} → Explains σ t p j x out → (k : ℕ) → k < length out → at out k < 256
  reason_below e = ascending_below (ascend e)

  pub reason_length : {p : Place} {j : ℕ} {x : Answer} {out : List ℕ} → Explains σ t p j x out → length out ≤ 193
  reason_length (no_reason s) = omega arith
  reason_length (with_reason n s r) = omega (arith, kept_length r, fixed_length h)
