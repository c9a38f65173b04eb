-- What one turn of the loop that reads a number comes to, why it stops where it does, and that there is one reading.
use mathlib.Core.Path.{◌≡◌, refl, sym, ◌∙◌, ap}
use mathlib.Core.List.{List, [], ◌∷◌, ◌++◌, append_assoc}
use Prim.Native.Nat.{ℕ, suc, ◌+◌, ◌*◌, ◌^◌, ◌≤◌, ◌<◌, ◌-◌}
use native.Mathlib.Numerals.{add-one}
use native.Mathlib.Omega.{arith}
use lib.ListN.{length, take, drop, get_or, length-append, length-drop, length-take}
use lib.Seq.{drop-cons}
use Rattle.std.proofs.Common.{Option, Some, None, get_or-take, get_or-drop}
use Rattle.decimal.specs.Text.{decimal}
use Rattle.decimal.specs.Digits.{Digit, digit_of}
use Rattle.decimal.specs.Reading.{NoNumber, IsNumber}
use Rattle.decimal.proofs.Decimals.{decimal_one, decimal_push}
use Rattle.decimal.proofs.Values.{decimal_some}
use Rattle.decimal.proofs.Apart.{decimal_first, number_goes, number_once}

-- ---- a number, digit by digit

-- the bytes of s from at to e are the number v so far
pub record Begun (s : List ℕ) (at v e : ℕ) : Type 0 where
  pub after : at < e
  pub within : e ≤ length s
  pub small : v < 2 ^ 64
  pub text : drop at s ≡ decimal v ++ drop e s

-- a byte of what stands from a place on
pub rest_byte : (s : List ℕ) (a i e : ℕ) → e ≡ a + i → i < length (take (length s - a) (drop a s))
    → (e < length s) × (get_or (take (length s - a) (drop a s)) i 0 ≡ get_or s e 0)
rest_byte s a i e q h =
    let lt : i < length s - a = omega (arith, length-take (length s - a) (drop a s)) in
    (omega arith, rw (get_or-take, get_or-drop, q))

pub digit_first : (s : List ℕ) (at v : ℕ) → at < length s → v < 10 → get_or s at 0 ≡ 48 + v → Begun s at v (at + 1)
digit_first s at v h small e =
    record { after = omega arith; within = omega arith; small = omega arith; text = rw (add-one at, drop-cons s at 0 h, e, decimal_one v small) }

pub digit_next : {s : List ℕ} {at v e : ℕ} (d : ℕ) → Begun s at v e → e < length s → 0 < v → d < 10 → get_or s e 0 ≡ 48 + d → v * 10 + d < 2 ^ 64
    → Begun s at (v * 10 + d) (e + 1)
digit_next {s} {at} {v} {e} d x h pos small is fits = record {
  after = omega (arith, x.after);
  within = omega arith;
  small = fits;
  text = x.text
      ∙ rw (add-one e, drop-cons s e 0 h, is, decimal_push v d pos small fits) (sym (append_assoc (decimal v) ((48 + d) ∷ []) (drop (suc e) s)));
}

-- there is none
pub none_past : (s : List ℕ) (at : ℕ) → length s ≤ at → NoNumber s at
none_past s at h v t a c e = omega (arith, decimal_some v, length-append (decimal v) t, ap length e, length-drop at s)

pub none_first : (s : List ℕ) (at : ℕ) → at < length s → 9 < digit_of (get_or s at 0) → NoNumber s at
none_first s at h not_one v t a c e =
    let d = decimal_first v t in
    let same : get_or s at 0 ≡ get_or (decimal v ++ t) 0 0 = ap (λ (l : List ℕ). get_or l 0 0) (sym (drop-cons s at 0 h) ∙ e) in
    omega (arith, d.low, d.high)

pub none_more : {s : List ℕ} {at v e : ℕ} → Begun s at v e → e < length s → digit_of (get_or s e 0) < 10
    → ¬ ((0 < v) × (v * 10 + digit_of (get_or s e 0) < 2 ^ 64)) → NoNumber s at
none_more {s} {at} {v} {e} x h digit never w t a c q =
    let is : Digit (get_or s e 0) = record { low = omega arith; high = omega arith } in
    let same = sym (x.text ∙ ap (λ (l : List ℕ). decimal v ++ l) (drop-cons s e 0 h)) ∙ q in
    let p = number_goes v w (get_or s e 0) (drop (suc e) s) t x.small a is c same in
    never (p.0, omega (arith, p.1))

-- two readings that the promise allows are equal
pub read_once : (s : List ℕ) (at : ℕ) (x y : Option (ℕ × ℕ)) → IsNumber s at x → IsNumber s at y → x ≡ y
read_once s at (Some (v, e)) (Some (w, f)) a b =
    let p = number_once v w (drop e s) (drop f s) a.small b.small a.stops b.stops (sym a.text ∙ b.text) in
    let same = p.0 in
    let ends : e ≡ f = omega (arith, ap length p.1, length-drop e s, length-drop f s, a.within, b.within) in
    cc
read_once s at (Some (v, e)) None a b = absurd (b v (drop e s) a.small a.stops a.text)
read_once s at None (Some (w, f)) a b = absurd (a w (drop f s) b.small b.stops b.text)
read_once s at None None a b = refl
