-- Bounds held by value in which a bit is treated as open at one place: as bounds of the rule's places they are what `opened` says.
use mathlib.Core.Path.{◌≡◌, refl, fun_ext}
use mathlib.Core.Logic.{◌≢◌, ◌⊎◌, inl, inr}
use Prim.Native.Nat.{ℕ, ◌+◌, ◌*◌, ◌^◌, ◌%◌, ◌-◌, ◌<◌}
use native.Mathlib.Decide.{dec_lt, ℕ_discrete}
use native.Mathlib.Omega.{arith}
use lib.Pow.{pow-lt}
use Rattle.std.specs.Int.Bits.{bit_and, bit_or}
use Rattle.std.proofs.lemmas.Nat.Bits.{bit_at-pow_same, bit_at-pow_other}
use Rattle.words.specs.Bits.{bit}
use Rattle.words.proofs.Order.{bit_lt, bits_ext, bit_high, bit_cases}
use Rattle.words.proofs.Ops.{bit_and_lem, bit_or_lem, bit_not}
use Rattle.words.proofs.OneBit.{set_other, clear_other, one_shl}
use Rattle.rules.specs.Kinds.{Place, R, A, B, S}
use Rattle.problem.specs.declared.Span as problem
use Rattle.problem.specs.Places.{Bounds, pair_of, lo_of, hi_of, span_of}
use Rattle.reason_theory.specs.Reason.{cleared, filled, placed, opened}
use Rattle.reason_theory.proofs.Opened.{cleared_same, filled_same}

-- ---- a bit made 0 by `&` and made 1 by `|`

pow_same : (b : ℕ) → bit (2 ^ b) b ≡ 1
unfolding bit
pow_same b = bit_at-pow_same b

pow_other : (b j : ℕ) → j ≢ b → bit (2 ^ b) j ≡ 0
unfolding bit
pow_other b j d = bit_at-pow_other b j d

module _ (n b : ℕ) where
  cleared_other : (j : ℕ) → j ≢ b → bit (cleared n b) j ≡ bit n j
  unfolding cleared
  cleared_other j d = go (bit_cases n b)
    where
      go : (bit n b ≡ 0) ⊎ (bit n b ≡ 1) → bit (n - bit n b * 2 ^ b) j ≡ bit n j
      go (inl z) = let e : n - bit n b * 2 ^ b ≡ n = rw z (omega arith) in rw e refl
      go (inr o) = let e : n - bit n b * 2 ^ b ≡ n - 2 ^ b = rw o (omega arith) in rw e (clear_other b n j o d)

  filled_other : (j : ℕ) → j ≢ b → bit (filled n b) j ≡ bit n j
  unfolding filled
  filled_other j d = go (bit_cases n b)
    where
      go : (bit n b ≡ 0) ⊎ (bit n b ≡ 1) → bit (n + (1 - bit n b) * 2 ^ b) j ≡ bit n j
      go (inl z) = let e : n + (1 - bit n b) * 2 ^ b ≡ n + 2 ^ b = rw z (omega arith) in rw e (set_other b n j z d)
      go (inr o) = let e : n + (1 - bit n b) * 2 ^ b ≡ n = rw o (omega arith) in rw e refl

  or_filled : bit_or n (2 ^ b) ≡ filled n b
  or_filled = bits_ext _ _ (λ j. go j (ℕ_discrete j b))
    where
      go : (j : ℕ) → Dec (j ≡ b) → bit (bit_or n (2 ^ b)) j ≡ bit (filled n b) j
      go j (yes e) = rw e (omega (arith, bit_or_lem b n (2 ^ b), pow_same b, bit_lt n b, filled_same n b))
      go j (no d) = omega (arith, bit_or_lem j n (2 ^ b), pow_other b j d, filled_other j d)

  and_cleared : b < 64 → n < 2 ^ 64 → bit_and n (2 ^ 64 - 1 - 2 ^ b) ≡ cleared n b
  and_cleared l h = bits_ext _ _ (λ j. go j (ℕ_discrete j b) (dec_lt j 64))
    where
      go : (j : ℕ) → Dec (j ≡ b) → Dec (j < 64) → bit (bit_and n (2 ^ 64 - 1 - 2 ^ b)) j ≡ bit (cleared n b) j
      go j (yes e) k =
          rw e (omega (arith, bit_and_lem b n (2 ^ 64 - 1 - 2 ^ b), bit_not 64 (2 ^ b) b (pow-lt {j = 64} l) l, pow_same b, cleared_same n b))
      go j (no d) (yes k) =
          omega (arith, bit_and_lem j n (2 ^ 64 - 1 - 2 ^ b), bit_not 64 (2 ^ b) j (pow-lt {j = 64} l) k, pow_other b j d, bit_lt n j, cleared_other j d)
      go j (no d) (no k) =
          omega (arith, bit_and_lem j n (2 ^ 64 - 1 - 2 ^ b), bit_high n 64 j h (omega arith), cleared_other j d)

  -- as the code computes, at 64 bits
  pub filled_or : b < 64 → bit_or n (1 * 2 ^ b % 18446744073709551616) ≡ filled n b
  filled_or l = rw (one_shl b l) or_filled

  pub cleared_and : b < 64 → n < 18446744073709551616 → bit_and n (18446744073709551615 - 1 * 2 ^ b % 18446744073709551616) ≡ cleared n b
  cleared_and l h = rw (one_shl b l) (and_cleared l h)

-- ---- one place changed

-- the bounds t, but x at place p
abbrev pub changed : Bounds → Place → problem.Span → Bounds
changed t R x = record { r = x; a = t.a; b = t.b; s = t.s }
changed t A x = record { r = t.r; a = x; b = t.b; s = t.s }
changed t B x = record { r = t.r; a = t.a; b = x; s = t.s }
changed t S x = record { r = t.r; a = t.a; b = t.b; s = x }

module _ (t : Bounds) (x : problem.Span) where
  low : (p q : Place) → lo_of (changed t p x) q ≡ placed p x.lo (lo_of t) q
  unfolding placed
  low R q = elim q as (λ k. lo_of (changed t R x) k ≡ placed R x.lo (lo_of t) k) [ R ↦ refl | A ↦ refl | B ↦ refl | S ↦ refl ]
  low A q = elim q as (λ k. lo_of (changed t A x) k ≡ placed A x.lo (lo_of t) k) [ R ↦ refl | A ↦ refl | B ↦ refl | S ↦ refl ]
  low B q = elim q as (λ k. lo_of (changed t B x) k ≡ placed B x.lo (lo_of t) k) [ R ↦ refl | A ↦ refl | B ↦ refl | S ↦ refl ]
  low S q = elim q as (λ k. lo_of (changed t S x) k ≡ placed S x.lo (lo_of t) k) [ R ↦ refl | A ↦ refl | B ↦ refl | S ↦ refl ]

  high : (p q : Place) → hi_of (changed t p x) q ≡ placed p x.hi (hi_of t) q
  unfolding placed
  high R q = elim q as (λ k. hi_of (changed t R x) k ≡ placed R x.hi (hi_of t) k) [ R ↦ refl | A ↦ refl | B ↦ refl | S ↦ refl ]
  high A q = elim q as (λ k. hi_of (changed t A x) k ≡ placed A x.hi (hi_of t) k) [ R ↦ refl | A ↦ refl | B ↦ refl | S ↦ refl ]
  high B q = elim q as (λ k. hi_of (changed t B x) k ≡ placed B x.hi (hi_of t) k) [ R ↦ refl | A ↦ refl | B ↦ refl | S ↦ refl ]
  high S q = elim q as (λ k. hi_of (changed t S x) k ≡ placed S x.hi (hi_of t) k) [ R ↦ refl | A ↦ refl | B ↦ refl | S ↦ refl ]

  span_changed : (p : Place) → span_of (changed t p x) ≡ record { lo = placed p x.lo (lo_of t); hi = placed p x.hi (hi_of t) }
  span_changed p = λ i. record { lo = fun_ext (low p) i; hi = fun_ext (high p) i }

-- x is the pair of bounds at place p, and y the same with bit b treated as open
pub changed_opened : (t : Bounds) (p : Place) (b : ℕ) {x y : problem.Span} → x ≡ pair_of t p → y ≡ record { lo = cleared x.lo b; hi = filled x.hi b }
    → span_of (changed t p y) ≡ opened (span_of t) p b
unfolding opened
changed_opened t p b e f =
    rw (f, e) (span_changed t (record { lo = cleared (lo_of t p) b; hi = filled (hi_of t p) b }) p)
