-- The places of a rule gone through: the fixed bits of one place bit by bit, then the four places, after which the list holds the reason.
use mathlib.Core.Path.{◌≡◌, sym, ap, ◌∙◌}
use mathlib.Core.Bool.{true, false}
use mathlib.Core.List.{List, [], ◌++◌, append_assoc, append-nil}
use Prim.Native.Nat.{ℕ, zero, suc, ◌+◌, ◌≤◌, ◌<◌, ◌-◌}
use native.Mathlib.Nat.{zero-add}
use Rattle.std.proofs.Common.{add-one, add-zero}
use native.Mathlib.Omega.{arith}
use lib.ListN.{length, length-append}
use lib.Seq.{length-sets, sets-eq}
use Rattle.rules.specs.Kinds.{Place}
use Rattle.problem.specs.Places.{Bounds, width_of, span_of}
use Rattle.rules.specs.Rows.{uses}
use Rattle.rules.specs.Fits.{Span}
use Rattle.reason_theory.specs.Reason.{Spot, fixed_from, fixed_at, fixed_of}
use Rattle.reason_theory.proofs.Rising.{fixed_length}
use Rattle.explain.specs.declared.Question.{Question}
use Rattle.explain.specs.declared.Said.{Said}
use Rattle.explain.specs.declared.Kept.{Kept}
use Rattle.explain.specs.Places.{place_of}
use Rattle.explain.specs.Asking.{shape_in, Asks}
use Rattle.explain.specs.Dropping.{spot_at, Gone, BitAsked, PlaceAsked, Reasoned}
use Rattle.explain.specs.Promise.{entries}
use Rattle.explain.proofs.Passing.{passed_reason, gone_none, gone_then}

-- ---- the fixed bits of a place, in two parts

module _ (t : Span) (p : Place) where
  from_parts : (n m b : ℕ) → fixed_from t p b (n + m) ≡ fixed_from t p b n ++ fixed_from t p (b + n) m
  unfolding fixed_from
  from_parts zero m b =
      let e : zero + m ≡ m = omega arith in
      let d : b + zero ≡ b = omega arith in
      rw (e, d)
  from_parts (suc n) m b =
      let e : suc n + m ≡ suc (n + m) = omega arith in
      let d : b + suc n ≡ suc b + n = omega arith in
      rw (e, d, from_parts n m (suc b)) (sym (append_assoc (spot_at t p b) (fixed_from t p (suc b) n) (fixed_from t p (suc b + n) m)))

  -- one bit more
  from_more : (b : ℕ) → fixed_from t p 0 (b + 1) ≡ fixed_from t p 0 b ++ spot_at t p b
  unfolding fixed_from
  from_more b = from_parts b 1 0 ∙ rw (zero-add b, append-nil (spot_at t p b))

  from_room : (b w : ℕ) → b < w → length (fixed_from t p 0 b) + length (spot_at t p b) ≤ length (fixed_from t p 0 w)
  from_room b w l =
      let e : b + 1 + (w - (b + 1)) ≡ w = omega arith in
      let whole : length (fixed_from t p 0 w) ≡ length (fixed_from t p 0 (b + 1)) + length (fixed_from t p (0 + (b + 1)) (w - (b + 1))) =
      ap (λ (n : ℕ). length (fixed_from t p 0 n)) (sym e) ∙ ap length (from_parts (b + 1) (w - (b + 1)) 0) ∙ simp length-append in
      let more : length (fixed_from t p 0 (b + 1)) ≡ length (fixed_from t p 0 b) + length (spot_at t p b) = ap length (from_more b) ∙ simp length-append in
      omega arith

-- what is kept fits behind what stands in the list, which stays as long as it was
pub gone_length : {q : Question} {x : Said} {ns : List Spot} {s r : Kept} {l m : List ℕ} → Gone q x ns s l r m → length m ≡ length l
gone_length {s = s} {l = l} g = ap length g.list ∙ length-sets l s.count g.out

-- ---- one place

module _ {q : Question} {g : Bounds} {s : Kept} {p : Place} {l : List ℕ} (asked : PlaceAsked q g s p l) where
  -- a place that the rule does not use has no bits to go through
  pub place_skipped : {x : Said} → uses (shape_in q).kind p ≡ false → Gone q x (fixed_at (shape_in q) (span_of g) p) s l s l
  unfolding fixed_at
  place_skipped e = rw e (gone_none l asked.asks.legal)

  pub place_start : {x : Said} → Gone q x (fixed_from (span_of g) p 0 0) s l s l
  unfolding fixed_from
  place_start = gone_none l asked.asks.legal

  module _ {x : Said} {r : Kept} {m : List ℕ} (b : ℕ) (h : Gone q x (fixed_from (span_of g) p 0 b) s l r m) where
    pub place_step : {v : Kept} {k : List ℕ} → Gone q x (spot_at (span_of g) p b) r m v k
        → Gone q x (fixed_from (span_of g) p 0 (b + 1)) s l v k
    place_step d = rw (from_more (span_of g) p b) (gone_then h d)

    module _ (u : uses (shape_in q).kind p ≡ true) (w : ℕ) (ew : w ≡ width_of q.w p) where
      pub place_bit : b < w → b < 64 → BitAsked q g r p b m
      unfolding fixed_at
      place_bit i j = record {
        asks = record { legal = h.legal; used = asked.asks.used; small = asked.asks.small };
        below = rw ew at i;
        small = j;
        room =
            let room : s.count + length (fixed_from (span_of g) p 0 (width_of q.w p)) ≤ length l = rw u at asked.room in
            omega (arith, from_room (span_of g) p b (width_of q.w p) (rw ew at i), h.count, h.few, gone_length h);
      }

      pub place_end : b ≡ w → Gone q x (fixed_at (shape_in q) (span_of g) p) s l r m
      unfolding fixed_at
      place_end e = rw (u, ← ew, ← e) h

-- ---- the four places

abbrev pub begun : Bounds → Kept
begun t = record { t = t; count = 0 }

-- the fixed bits of the first n places
unfoldable pub bits : Question → Bounds → ℕ → List Spot
bits q t zero = []
bits q t (suc n) = bits q t n ++ fixed_at (shape_in q) (span_of t) (place_of n)

module _ (q : Question) (t : Bounds) where
  bits_more : (n : ℕ) → bits q t (n + 1) ≡ bits q t n ++ fixed_at (shape_in q) (span_of t) (place_of n)
  unfolding bits
  bits_more n = rw add-one

  four : fixed_of (shape_in q) (span_of t) ≡ bits q t 4
  unfolding fixed_of place_of bits
  four = simp append_assoc

  -- with each place there are no fewer
  rising : (n m : ℕ) → length (bits q t n) ≤ length (bits q t (n + m))
  rising n zero = rw add-zero (omega arith)
  rising n (suc m) =
      let e : n + suc m ≡ n + m + 1 = omega arith in
      rw (e, bits_more (n + m), length-append) (omega (arith, rising n m))

  below : (n m : ℕ) → n ≤ m → length (bits q t n) ≤ length (bits q t m)
  below n m l = let e : m ≡ n + (m - n) = omega arith in rw e (rising n (m - n))

module _ {q : Question} {t : Bounds} (asks : Asks q t) {l : List ℕ} (room : entries ≤ length l) where
  pub none_gone : {x : Said} → Gone q x (bits q t 0) (begun t) l (begun t) l
  unfolding bits
  none_gone = gone_none l asks.legal

  module _ {x : Said} {r : Kept} {m : List ℕ} (n : ℕ) (p : Place) (at : place_of n ≡ p) (g : Gone q x (bits q t n) (begun t) l r m) where
    pub next_asked : n < 4 → PlaceAsked q t r p m
    next_asked k = record {
      asks = record { legal = g.legal; used = asks.used; small = asks.small };
      room =
          let e = rw (bits_more q t n, length-append, at) at (below q t (n + 1) 4 (omega arith)) in
          omega (arith, e, g.count, g.few, gone_length g, rw (four q t) at (fixed_length asks.legal));
    }

    pub next_gone : {v : Kept} {k : List ℕ} → Gone q x (fixed_at (shape_in q) (span_of t) p) r m v k → Gone q x (bits q t (n + 1)) (begun t) l v k
    next_gone d = rw (bits_more q t n, at) (gone_then g d)

  pub all_gone : {x : Said} {r : Kept} {m : List ℕ} → Gone q x (bits q t 4) (begun t) l r m → Reasoned q x t l r.count m
  all_gone g =
      let few = g.few in
      let all = rw (four q t) at (fixed_length asks.legal) in
      record {
        out = g.out;
        reason = rw (four q t) (passed_reason g.passed);
        count = g.count ∙ zero-add (length g.out);
        list = g.list ∙ sets-eq g.out l 0 (omega arith) ∙ rw (zero-add (length g.out));
      }
