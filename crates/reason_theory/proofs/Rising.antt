-- The fixed bits of a rule's places are listed in rising order of their entries, each below the width of its place, and are at most 193.
use mathlib.Core.Path.{◌≡◌, refl}
use mathlib.Core.Bool.{Bool, true, false, cond}
use mathlib.Core.List.{List, [], ◌∷◌, ◌++◌, append-nil}
use Prim.Native.Nat.{ℕ, zero, suc, ◌+◌, ◌*◌, ◌≤◌, ◌<◌}
use native.Mathlib.Nat.{le_refl, le_trans}
use native.Mathlib.Omega.{arith}
use lib.Dec.{T}
use lib.ListN.{length, length-append}
use Rattle.rules.specs.Kinds.{Place, R, A, B, S, Kind, op, rel, COPY, NOT, AND, OR, XOR, ADD, ITE, SLICE, JOIN, SHL, SHR}
use Rattle.rules.specs.Rows.{uses, Fitting}
use Rattle.rules.specs.Meaning.{Shape}
use Rattle.rules.specs.Fits.{Span, Uses, Legal}
use Rattle.reason_theory.specs.Reason.{place_no, Spot, spot, entry, fixed_bit, fixed_from, fixed_at, fixed_of}

-- bits of used places, below the widths there, with rising entries from n on
pub data Rising (σ : Shape) : ℕ → List Spot → Type 0 where
  no_more : {n : ℕ} → Rising σ n []
  next : {n b : ℕ} {q : Place} {ns : List Spot} → Uses σ q → b < σ.width q → n ≤ entry q b → Rising σ (suc (entry q b)) ns → Rising σ n (spot q b ∷ ns)

rising_from : {σ : Shape} {m n : ℕ} {ns : List Spot} → m ≤ n → Rising σ n ns → Rising σ m ns
rising_from l no_more = no_more
rising_from l (next u w h r) = next u w (le_trans l h) r

module _ {σ : Shape} (t : Span) (p : Place) (u : Uses σ p) where
  from_rising : {rest : List Spot} (n b : ℕ) → b + n ≤ σ.width p → Rising σ (entry p (b + n)) rest → Rising σ (entry p b) (fixed_from t p b n ++ rest)
  unfolding fixed_from
  from_rising zero b l r = rising_from (omega arith) r
  from_rising {rest} (suc n) b l r =
      let e : suc b + n ≡ b + suc n = omega arith in
      go (fixed_bit t p b) (from_rising n (suc b) (omega arith) (rw e r))
    where
      go : (c : Bool) → Rising σ (entry p (suc b)) (fixed_from t p (suc b) n ++ rest)
          → Rising σ (entry p b) (cond c (spot p b ∷ []) [] ++ fixed_from t p (suc b) n ++ rest)
      go true r = next {b = b} u (omega arith) (le_refl _) (rising_from (omega arith) r)
      go false r = rising_from (omega arith) r

at_rising : {σ : Shape} {t : Span} {rest : List Spot} (p : Place) → Legal σ t → Rising σ (64 * suc (place_no p)) rest
    → Rising σ (64 * place_no p) (fixed_at σ t p ++ rest)
unfolding fixed_at
at_rising {σ} {t} {rest} p h r = go (uses σ.kind p) refl
  where
    go : (c : Bool) → uses σ.kind p ≡ c → Rising σ (64 * place_no p) (cond c (fixed_from t p 0 (σ.width p)) [] ++ rest)
    go true e =
        let u : Uses σ p = rw e tt in
        rising_from (omega arith) (from_rising t p u (σ.width p) 0 (omega arith) (rising_from (omega (arith, (h.width p u).high)) r))
    go false e = rising_from (omega arith) r

pub fixed_rising : {σ : Shape} {t : Span} → Legal σ t → Rising σ 0 (fixed_of σ t)
unfolding fixed_of
fixed_rising h = at_rising R h (at_rising A h (at_rising B h (rw append-nil at (at_rising S h no_more))))

-- ---- how many

from_length : (t : Span) (p : Place) (n b : ℕ) → length (fixed_from t p b n) ≤ n
unfolding fixed_from
from_length t p zero b = omega arith
from_length t p (suc n) b = go (fixed_bit t p b) (from_length t p n (suc b))
  where
    go : (c : Bool) → length (fixed_from t p (suc b) n) ≤ n → length (cond c (spot p b ∷ []) [] ++ fixed_from t p (suc b) n) ≤ suc n
    go true l = omega arith
    go false l = omega arith

at_length : (σ : Shape) (t : Span) (p : Place) (m : ℕ) → (Uses σ p → σ.width p ≤ m) → length (fixed_at σ t p) ≤ m
unfolding fixed_at
at_length σ t p m h = go (uses σ.kind p) refl
  where
    go : (c : Bool) → uses σ.kind p ≡ c → length (cond c (fixed_from t p 0 (σ.width p)) []) ≤ m
    go true e = omega (arith, from_length t p (σ.width p) 0, h (rw e tt))
    go false e = omega arith

-- a kind that uses s wants width 1 there
s_width : (κ : Kind) (w : Place → ℕ) (k : ℕ) → Fitting κ w k → T (uses κ S) → w S ≤ 1
s_width (op COPY) w k f u = absurd u
s_width (op NOT) w k f u = absurd u
s_width (op AND) w k f u = absurd u
s_width (op OR) w k f u = absurd u
s_width (op XOR) w k f u = absurd u
s_width (op ADD) w k f u = absurd u
s_width (op ITE) w k f u = omega (arith, f.2)
s_width (op SLICE) w k f u = absurd u
s_width (op JOIN) w k f u = absurd u
s_width (op SHL) w k f u = absurd u
s_width (op SHR) w k f u = absurd u
s_width (rel x) w k f u = absurd u

pub fixed_length : {σ : Shape} {t : Span} → Legal σ t → length (fixed_of σ t) ≤ 193
unfolding fixed_of
fixed_length {σ} {t} h =
    simp length-append (omega (
      arith,
      at_length σ t R 64 (λ u. (h.width R u).high),
      at_length σ t A 64 (λ u. (h.width A u).high),
      at_length σ t B 64 (λ u. (h.width B u).high),
      at_length σ t S 1 (s_width σ.kind σ.width σ.k h.fitting),
    ))
