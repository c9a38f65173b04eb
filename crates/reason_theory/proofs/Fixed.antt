-- The bits gone through for a reason are the fixed bits of the rule's places, all of them and no other; and so each entry is one of them.
use mathlib.Core.Path.{◌≡◌, refl}
use mathlib.Core.Logic.{◌⊎◌, inl, inr}
use mathlib.Core.Bool.{Bool, true, false, cond, ◌||◌}
use mathlib.Core.List.Memᴰ
use mathlib.Core.List.{List, [], ◌∷◌, ◌++◌, Memᴰ}
use Prim.Native.Nat.{ℕ, zero, suc, ◌+◌, ◌≤◌, ◌<◌}
use native.Mathlib.Omega.{arith}
use native.Mathlib.Decide.{ℕ_discrete}
use lib.Dec.{T, eqb}
use borrow.Author.Tests.{eqb-true, eq-eqb}
use Rattle.words.specs.Bits.{bit}
use Rattle.rules.specs.Kinds.{Place, R, A, B, S}
use Rattle.rules.specs.Rows.{uses}
use Rattle.rules.specs.Meaning.{Shape}
use Rattle.rules.specs.Fits.{Span}
use Rattle.reason_theory.specs.Says.{Answer}
use Rattle.reason_theory.specs.Reason.{Spot, spot, entry, Reason, all_seen, dropped, kept, Fixed, fixed_bit, fixed_from, fixed_at, fixed_of, Explains}
use Rattle.reason_theory.specs.Reason.{no_reason, with_reason}
use Rattle.reason_theory.specs.Alone.{listed}

module _ (t : Span) (p : Place) where
  -- a bit that is the same in both bounds, and the test for it
  fixed_bit_lem : (b : ℕ) → bit (t.lo p) b ≡ bit (t.hi p) b → fixed_bit t p b ≡ true
  unfolding fixed_bit
  fixed_bit_lem b e = eq-eqb _ _ e

  bit_fixed : (b : ℕ) → fixed_bit t p b ≡ true → bit (t.lo p) b ≡ bit (t.hi p) b
  unfolding fixed_bit
  bit_fixed b e = eqb-true _ _ e

  from_all : (n b k : ℕ) → b ≤ k → k < b + n → bit (t.lo p) k ≡ bit (t.hi p) k → Memᴰ (spot p k) (fixed_from t p b n)
  unfolding fixed_from
  from_all zero b k l h e = absurd (omega arith)
  from_all (suc n) b k l h e = go (ℕ_discrete k b) (λ d. from_all n (suc b) k (omega arith) (omega arith) e)
    where
      go : Dec (k ≡ b) → (¬ (k ≡ b) → Memᴰ (spot p k) (fixed_from t p (suc b) n))
          → Memᴰ (spot p k) (cond (fixed_bit t p b) (spot p b ∷ []) [] ++ fixed_from t p (suc b) n)
      go (yes d) ih = rw (← d, fixed_bit_lem k e) (Memᴰ.head refl)
      go (no d) ih = Memᴰ.append_right (cond (fixed_bit t p b) (spot p b ∷ []) []) (ih d)

  from_only : (n b : ℕ) {q : Place} {k : ℕ} → Memᴰ (spot q k) (fixed_from t p b n)
      → (q ≡ p) × (b ≤ k) × (k < b + n) × (bit (t.lo p) k ≡ bit (t.hi p) k)
  unfolding fixed_from
  from_only zero b m = absurd (Memᴰ.not-nil m)
  from_only (suc n) b {q} {k} m = go (fixed_bit t p b) refl (Memᴰ.append_cases _ m) (λ m'. from_only n (suc b) m')
    where
      go : (c : Bool) → fixed_bit t p b ≡ c
          → Memᴰ (spot q k) (cond c (spot p b ∷ []) []) ⊎ Memᴰ (spot q k) (fixed_from t p (suc b) n)
          → (Memᴰ (spot q k) (fixed_from t p (suc b) n) → (q ≡ p) × (suc b ≤ k) × (k < suc b + n) × (bit (t.lo p) k ≡ bit (t.hi p) k))
          → (q ≡ p) × (b ≤ k) × (k < b + suc n) × (bit (t.lo p) k ≡ bit (t.hi p) k)
      go true e (inl m) ih =
          let s : spot q k ≡ spot p b = Memᴰ.eq_of_singleton m in
          let d : k ≡ b = cc in
          (cc, omega arith, omega arith, rw d (bit_fixed b e))
      go true e (inr m) ih = let (a, l, h, z) = ih m in (a, omega arith, omega arith, z)
      go false e (inl m) ih = absurd (Memᴰ.not-nil m)
      go false e (inr m) ih = let (a, l, h, z) = ih m in (a, omega arith, omega arith, z)

module _ {σ : Shape} {t : Span} (p : Place) where
  at_all : {k : ℕ} → Fixed σ t p k → Memᴰ (spot p k) (fixed_at σ t p)
  unfolding fixed_at
  at_all {k} f = go (uses σ.kind p) f.used
    where
      go : (c : Bool) → T c → Memᴰ (spot p k) (cond c (fixed_from t p 0 (σ.width p)) [])
      go true u = from_all t p (σ.width p) 0 k (omega arith) (omega (arith, f.below)) f.same
      go false u = absurd u

  at_only : {q : Place} {k : ℕ} → Memᴰ (spot q k) (fixed_at σ t p) → Fixed σ t q k
  unfolding fixed_at
  at_only {q} {k} m = go (uses σ.kind p) refl m
    where
      go : (c : Bool) → uses σ.kind p ≡ c → Memᴰ (spot q k) (cond c (fixed_from t p 0 (σ.width p)) []) → Fixed σ t q k
      go true e m =
          let (d, l, h, z) = from_only t p (σ.width p) 0 m in
          rw d (record { used = rw e tt; below = omega arith; same = z })
      go false e m = absurd (Memᴰ.not-nil m)

-- each fixed bit is gone through
pub fixed_all : {σ : Shape} {t : Span} (p : Place) {b : ℕ} → Fixed σ t p b → Memᴰ (spot p b) (fixed_of σ t)
unfolding fixed_of
fixed_all R f = Memᴰ.append_left _ (at_all R f)
fixed_all {σ} {t} A f = Memᴰ.append_right (fixed_at σ t R) (Memᴰ.append_left _ (at_all A f))
fixed_all {σ} {t} B f = Memᴰ.append_right (fixed_at σ t R) (Memᴰ.append_right (fixed_at σ t A) (Memᴰ.append_left _ (at_all B f)))
fixed_all {σ} {t} S f = Memᴰ.append_right (fixed_at σ t R) (Memᴰ.append_right (fixed_at σ t A) (Memᴰ.append_right (fixed_at σ t B) (at_all S f)))

-- and no other
pub fixed_only : {σ : Shape} {t : Span} {p : Place} {b : ℕ} → Memᴰ (spot p b) (fixed_of σ t) → Fixed σ t p b
unfolding fixed_of
fixed_only {σ} {t} {p} {b} m = by (fixed_at σ t R) (at_only R) (by (fixed_at σ t A) (at_only A) (by (fixed_at σ t B) (at_only B) (at_only S))) m
  where
    by : (l : List Spot) {k : List Spot} → (Memᴰ (spot p b) l → Fixed σ t p b) → (Memᴰ (spot p b) k → Fixed σ t p b)
        → Memᴰ (spot p b) (l ++ k) → Fixed σ t p b
    by l {k} f g m = go (Memᴰ.append_cases l m)
      where
        go : Memᴰ (spot p b) l ⊎ Memᴰ (spot p b) k → Fixed σ t p b
        go (inl x) = f x
        go (inr x) = g x

kept_from : {σ : Shape} {p : Place} {j : ℕ} {x : Answer} {t : Span} {ns : List Spot} {out : List ℕ} (n : ℕ) → Reason σ p j x t ns out → T (listed n out)
    → (q : Place) × (b : ℕ) × (n ≡ entry q b) × Memᴰ (spot q b) ns
unfolding listed
kept_from n all_seen m = absurd m
kept_from n (dropped s r) m = let (q, b, e, i) = kept_from n r m in (q, b, e, Memᴰ.tail i)
kept_from n (kept {q = o} {b = c} {ns = ns} {out = out} s r) m = go (eqb n (entry o c)) refl m (λ m'. kept_from n r m')
  where
    go : (v : Bool) → eqb n (entry o c) ≡ v → T (v || listed n out)
        → (T (listed n out) → (q : Place) × (b : ℕ) × (n ≡ entry q b) × Memᴰ (spot q b) ns)
        → (q : Place) × (b : ℕ) × (n ≡ entry q b) × Memᴰ (spot q b) (spot o c ∷ ns)
    go true e m ih = (o, c, eqb-true _ _ e, Memᴰ.head refl)
    go false e m ih = let (q, b, e, i) = ih m in (q, b, e, Memᴰ.tail i)

-- each entry of a reason is a fixed bit of the rule's places
pub reason_fixed : {σ : Shape} {t : Span} {p : Place} {j : ℕ} {x : Answer} {out : List ℕ} (n : ℕ) → Explains σ t p j x out → T (listed n out)
    → (q : Place) × (b : ℕ) × (n ≡ entry q b) × Fixed σ t q b
unfolding listed
reason_fixed n (no_reason s) m = absurd m
reason_fixed n (with_reason d s r) m = let (q, b, e, i) = kept_from n r m in (q, b, e, fixed_only i)
