-- COPY, SLICE and SHR: r is m bits of a from bit k on, and the other bits of a are not looked at.
use Rattle.std.proofs.Common.{◌≡◌, ℕ, ◌+◌, ◌-◌, ◌/◌, ◌%◌, ◌^◌, ◌<◌, ◌≤◌, T, sym, refl, ◌∙◌, mod-eq_of_lt, zero-mul, div-one, arith, pow_mono}
use native.Mathlib.Decide.{dec_lt}
use lib.Bits.{bit_xor, xor_self, xor_zero_r, and_mask}
use lib.Pow.{shr_le}
use Rattle.words.specs.Bits.{bit, ◌⊑◌}
use Rattle.words.specs.Word.{Bounded}
use Rattle.words.proofs.Order.{bit_lt, bit_high, bits_ext, ⊑_le}
use Rattle.words.proofs.Ops.{bit_xor_lem}
use Rattle.words.proofs.Meets.{and_mono}
use Rattle.rules.specs.Kinds.{Place, R, A, B, S, Op, COPY, SLICE, SHR, op}
use Rattle.rules.specs.Rows.{row, operand}
use Rattle.rules.specs.Meaning.{result}
use Rattle.hull.specs.Moves.{shl_by, bits_from, into_part, slice_of, moved_of}
use Rattle.problem.specs.Places.{Bounds, shaped, span_of}
use Rattle.hull.specs.Narrowing.{Narrows}
use Rattle.hull.proofs.Parts.{by_parts, shl_low, shl_at, shl_out, shr_mono, part_at, part_high}
use Rattle.hull.proofs.Alone.{alone_narrows}

-- ---- the bits of x with n put in

module _ (k m x n : ℕ) where
  abbrev d : ℕ
  d = bit_xor (bits_from k m x) n

  into_low : (j : ℕ) → j < k → bit (into_part k m x n) j ≡ bit x j
  into_low j l = omega (arith, bit_xor_lem j x (shl_by d k), shl_low d k j l, bit_lt x j)

  into_at : (i : ℕ) → i < m → k + i < 64 → bit (into_part k m x n) (k + i) ≡ bit n i
  into_at i l h =
      omega (arith, bit_xor_lem (k + i) x (shl_by d k), shl_at d k i h, bit_xor_lem i (bits_from k m x) n, part_at k m x i l, bit_lt x (k + i), bit_lt n i)

  into_high : (i : ℕ) → m ≤ i → bit n i ≡ 0 → bit (into_part k m x n) (k + i) ≡ bit x (k + i)
  into_high i l z = go (dec_lt (k + i) 64)
    where
      go : Dec (k + i < 64) → bit (into_part k m x n) (k + i) ≡ bit x (k + i)
      go (yes h) = omega (arith, bit_xor_lem (k + i) x (shl_by d k), shl_at d k i h, bit_xor_lem i (bits_from k m x) n, part_high k m x i l, bit_lt x (k + i))
      go (no h) = omega (arith, bit_xor_lem (k + i) x (shl_by d k), shl_out d k (k + i) (omega arith), bit_lt x (k + i))

  into_out : (i : ℕ) → 64 ≤ k + i → bit (into_part k m x n) (k + i) ≡ bit x (k + i)
  into_out i h = omega (arith, bit_xor_lem (k + i) x (shl_by d k), shl_out d k (k + i) h, bit_lt x (k + i))

module _ (o : Op) (κ : ℕ) (w : Place → ℕ) (t : Bounds) (no_b : ¬ T (operand (row o) B)) (no_s : ¬ T (operand (row o) S)) (k m : ℕ)
    (ba : Bounded 64 t.a.lo t.a.hi)
    (says : (a b s : ℕ) → a ⊑ t.a.hi → result o w κ a b s ≡ a / 2 ^ k % 2 ^ m) where
  -- what r can be has no bits from m on
  small : {n : ℕ} → n ⊑ bits_from k m t.a.hi → (i : ℕ) → m ≤ i → bit n i ≡ 0
  small q i l = omega (arith, q.bits i, part_high k m t.a.hi i l)

  mono : {a a' r r' : ℕ} → a ⊑ a' → r ⊑ r' → r' ⊑ bits_from k m t.a.hi → (i : ℕ) → Dec (i < m) → Dec (k + i < 64)
      → bit (into_part k m a r) (k + i) ≤ bit (into_part k m a' r') (k + i)
  mono {a} {a'} {r} {r'} q n l i (yes h) (yes g) = omega (arith, into_at k m a r i h g, into_at k m a' r' i h g, n.bits i)
  mono {a} {a'} {r} {r'} q n l i (yes h) (no g) = omega (arith, into_out k m a r i (omega arith), into_out k m a' r' i (omega arith), q.bits (k + i))
  mono {a} {a'} {r} {r'} q n l i (no h) g =
      let z = small l i (omega arith) in
      omega (arith, into_high k m a r i (omega arith) (omega (arith, n.bits i)), into_high k m a' r' i (omega arith) z, q.bits (k + i))

  got : {a r : ℕ} → a ⊑ t.a.hi → r ⊑ bits_from k m t.a.hi → (i : ℕ) → Dec (i < m) → Dec (k + i < 64) → bit (bits_from k m (into_part k m a r)) i ≡ bit r i
  got {a} {r} q l i (yes h) (yes g) = part_at k m _ i h ∙ into_at k m a r i h g
  got {a} {r} q l i (yes h) (no g) =
      let z = bit_high t.a.hi 64 (k + i) ba.below (omega arith) in
      omega (arith, part_at k m (into_part k m a r) i h, into_out k m a r i (omega arith), q.bits (k + i), l.bits i, part_at k m t.a.hi i h)
  got {a} {r} q l i (no h) g = part_high k m _ i (omega arith) ∙ sym (small l i (omega arith))

  slice_narrows : Narrows (shaped (op o) κ w) (span_of t) (slice_of k m t)
  unfolding moved_of
  slice_narrows =
      alone_narrows o κ w t no_b no_s (bits_from k m) (into_part k m)
      (record {
        proper = ba.under;
        says = λ {a} b s q. says a b s q ∙ sym (and_mask (a / 2 ^ k) m);
        get_mono = λ q l. and_mono (2 ^ m - 1) (shr_mono k q);
        into_mono = λ {a} {a'} {r} {r'} q g n l. record {
          bits = by_parts (λ j. bit (into_part k m a r) j ≤ bit (into_part k m a' r') j) k
              (λ j h. omega (arith, into_low k m a r j h, into_low k m a' r' j h, q.bits j)) (λ i. mono q n l i (dec_lt i m) (dec_lt (k + i) 64));
        };
        back = λ {a} q. rw (xor_self (bits_from k m a), zero-mul, xor_zero_r);
        reached = λ {a} {r} q l. bits_ext _ _ (λ i. got q l i (dec_lt i m) (dec_lt (k + i) 64));
      })

module _ (k : ℕ) (w : Place → ℕ) (t : Bounds) (wide : w A ≤ 64) (ba : Bounded (w A) t.a.lo t.a.hi) where
  bounds_64 : Bounded 64 t.a.lo t.a.hi
  bounds_64 = record { under = ba.under; below = omega (arith, ba.below, pow_mono wide) }

  -- what lies under a's high bound keeps to the width of a, also shifted down
  within : (i a : ℕ) → w R ≡ w A → a ⊑ t.a.hi → a / 2 ^ i % 2 ^ w R ≡ a / 2 ^ i
  within i a e q = mod-eq_of_lt (rw e (omega (arith, shr_le a i, ⊑_le _ _ q, ba.below)))

  pub copy_narrows : w R ≡ w A → Narrows (shaped (op COPY) k w) (span_of t) (slice_of 0 (w R) t)
  copy_narrows e =
      slice_narrows COPY k w t (λ u. u) (λ u. u) 0 (w R) bounds_64 (λ a b s q. sym (within 0 a e q ∙ div-one a))

  pub slice_kind_narrows : Narrows (shaped (op SLICE) k w) (span_of t) (slice_of k (w R) t)
  slice_kind_narrows = slice_narrows SLICE k w t (λ u. u) (λ u. u) k (w R) bounds_64 (λ a b s q. refl)

  pub shr_narrows : w R ≡ w A → Narrows (shaped (op SHR) k w) (span_of t) (slice_of k (w R) t)
  shr_narrows e = slice_narrows SHR k w t (λ u. u) (λ u. u) k (w R) bounds_64 (λ a b s q. sym (within k a e q))
