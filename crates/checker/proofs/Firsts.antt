-- The first refusal of a run: what is known of those before it, and of all where there is none.
use mathlib.Core.Path.{◌≡◌, refl, sym, ap, subst, ◌∙◌}
use mathlib.Core.Bool.{Bool, true, false}
use mathlib.Core.Logic.{⊎_elim}
use Prim.Native.Nat.{ℕ, zero, suc, ◌+◌, ◌<◌, ◌≤◌}
use native.Mathlib.Nat.{eq-or-lt_of_le, le_antisymm}
use native.Mathlib.Numerals.{add-one}
use native.Mathlib.Omega.{arith}
use lib.Dec.{T}
use Rattle.checker.specs.declared.refusal.Refusal.{Refusal}
use Rattle.checker.specs.Demands.{Demand}
use Rattle.std.specs.Prelude.{Ok, Err}
use Rattle.checker.specs.Refusal.{Checked, asks, ◌then◌, first_of}

-- no answer is a refusal and OK
pub refused_not_ok : {r : Refusal} {x : Checked} → x ≡ Err r → x ≡ Ok tt → ⊥
refused_not_ok a b = let z : ◌≡◌ {A = ℕ} 0 1 = cc in omega arith

-- ---- a test

pub asks_ok : (d : Demand) (b : Bool) → asks d b ≡ Ok tt → T b
asks_ok d true e = tt
asks_ok d false e = absurd (refused_not_ok refl e)

pub asks_true : (d : Demand) (b : Bool) → T b → asks d b ≡ Ok tt
asks_true d true t = refl
asks_true d false t = absurd t

-- ---- one after the other

pub then_ok : (x y : Checked) → x then y ≡ Ok tt → (x ≡ Ok tt) × (y ≡ Ok tt)
then_ok (Ok tt) y e = (refl, e)
then_ok (Err r) y e = absurd (refused_not_ok refl e)

pub ok_then : (x y : Checked) → x ≡ Ok tt → y ≡ Ok tt → x then y ≡ Ok tt
ok_then (Ok tt) y e f = f
ok_then (Err r) y e f = e

-- ---- a run

-- no refusal among the first n
pub run_ok : (n : ℕ) (f : ℕ → Checked) → first_of n f ≡ Ok tt → (i : ℕ) → i < n → f i ≡ Ok tt
unfolding first_of
run_ok zero f e i l = absurd (omega arith)
run_ok (suc n) f e i l =
    let (x, y) = then_ok (first_of n f) (f n) e in
    let k : i ≤ n = omega arith in
    ⊎_elim (λ q. rw q y) (run_ok n f x i) (eq-or-lt_of_le k)

pub ok_run : (n : ℕ) (f : ℕ → Checked) → ((i : ℕ) → i < n → f i ≡ Ok tt) → first_of n f ≡ Ok tt
unfolding first_of
ok_run zero f h = refl
ok_run (suc n) f h = ok_then (first_of n f) (f n) (ok_run n f (λ i l. h i (omega arith))) (h n (omega arith))

pub run_none : (f : ℕ → Checked) → first_of 0 f ≡ Ok tt
unfolding first_of
run_none f = refl

pub run_more : (i : ℕ) (f : ℕ → Checked) → first_of i f ≡ Ok tt → f i ≡ Ok tt → first_of (i + 1) f ≡ Ok tt
unfolding first_of
run_more i f e h = rw add-one (ok_then (first_of i f) (f i) e h)

pub run_end : (n i : ℕ) (f : ℕ → Checked) → i ≤ n → n ≤ i → first_of i f ≡ Ok tt → Ok tt ≡ first_of n f
run_end n i f l m e = sym (subst (λ (k : ℕ). first_of k f ≡ Ok tt) (le_antisymm l m) e)

-- a refusal after none is the run's, however long the run
pub run_stop : (n i : ℕ) (f : ℕ → Checked) {r : Refusal} → i < n → first_of i f ≡ Ok tt → f i ≡ Err r → first_of n f ≡ Err r
unfolding first_of
run_stop zero i f l e h = absurd (omega arith)
run_stop (suc n) i f {r} l e h =
    let k : i ≤ n = omega arith in
    ⊎_elim
    (λ q. rw (← q, e, h))
    (λ m. ap (λ (z : Checked). z then f n) (run_stop n i f m e h))
    (eq-or-lt_of_le k)

-- the run's refusal is that of its first that refuses
pub run_refused : (n : ℕ) (f : ℕ → Checked) {r : Refusal} → first_of n f ≡ Err r
    → (i : ℕ) × (i < n) × (f i ≡ Err r) × ((j : ℕ) → j < i → f j ≡ Ok tt)
unfolding first_of
run_refused zero f e = absurd (refused_not_ok refl (sym e))
run_refused (suc n) f {r} e = go (first_of n f) refl e (λ q. run_refused n f q)
  where
    go : (z : Checked) → first_of n f ≡ z → z then f n ≡ Err r
        → (first_of n f ≡ Err r → (i : ℕ) × (i < n) × (f i ≡ Err r) × ((j : ℕ) → j < i → f j ≡ Ok tt))
        → (i : ℕ) × (i < suc n) × (f i ≡ Err r) × ((j : ℕ) → j < i → f j ≡ Ok tt)
    go (Ok tt) q e rest = (n, omega arith, e, run_ok n f q)
    go (Err r) q e rest = let (i, l, r, h) = rest (q ∙ e) in (i, omega arith, r, h)
