-- Fixed bits gone through: one bit dropped or kept, and parts one after the other.
use mathlib.Core.Path.{◌≡◌, refl, sym, ◌∙◌}
use mathlib.Core.Logic.{◌≢◌}
use mathlib.Core.List.{List, [], ◌∷◌, ◌++◌, append_assoc, append-nil}
use Prim.Native.Nat.{ℕ, suc, ◌+◌, ◌*◌, ◌≤◌, ◌<◌}
use native.Mathlib.Omega.{arith}
use lib.ListN.{length, length-append, set}
use lib.Seq.{sets}
use borrow.Author.Tests.{eq-eqb, ne_eqb}
use Rattle.words.specs.Bits.{bit}
use Rattle.rules.specs.Kinds.{Place}
use Rattle.rules.specs.Meaning.{Shape}
use Rattle.rules.specs.Fits.{Span, Legal}
use Rattle.problem.specs.Places.{Bounds, lo_of, hi_of, span_of}
use Rattle.reason_theory.specs.Says.{Answer, Says}
use Rattle.reason_theory.specs.Reason.{Spot, spot, place_no, entry, opened, Reason, all_seen, dropped, kept, fixed_bit}
use Rattle.reason_theory.proofs.Opened.{opened_legal}
use Rattle.explain.specs.declared.Question.{Question}
use Rattle.explain.specs.declared.Said.{Said}
use Rattle.explain.specs.declared.Kept.{Kept}
use Rattle.explain.specs.Asking.{shape_in, place_in, answer, Asks}
use Rattle.explain.specs.Dropping.{spot_at, Passed, Gone, BitAsked}

-- ---- over the bounds

module _ {σ : Shape} {p : Place} {j : ℕ} {x : Answer} where
  passed_none : (t : Span) → Passed σ p j x t [] t []
  passed_none t = record { onward = λ ms rest r. r }

  passed_dropped : {t u : Span} (q : Place) (b : ℕ) → u ≡ opened t q b → Says σ u p j x → Passed σ p j x t (spot q b ∷ []) u []
  passed_dropped {t} q b e s = rw e (record { onward = λ ms rest r. dropped (rw e at s) r })

  passed_kept : {t u : Span} (q : Place) (b : ℕ) → u ≡ opened t q b → ¬ Says σ u p j x → Passed σ p j x t (spot q b ∷ []) t (entry q b ∷ [])
  passed_kept q b e n = record { onward = λ ms rest r. kept (rw e at n) r }

  pub passed_then : {t u v : Span} {ns ms : List Spot} {out more : List ℕ} → Passed σ p j x t ns u out → Passed σ p j x u ms v more
      → Passed σ p j x t (ns ++ ms) v (out ++ more)
  passed_then {ns = ns} {ms} {out} {more} h k = record {
    onward = λ rs rest r. rw (append_assoc ns ms rs, append_assoc out more rest) (h.onward _ _ (k.onward rs rest r));
  }

  -- all gone through: what is kept is the reason
  pub passed_reason : {t u : Span} {ns : List Spot} {out : List ℕ} → Passed σ p j x t ns u out → Reason σ p j x t ns out
  passed_reason {u = u} {ns = ns} {out = out} h = rw (append-nil ns, append-nil out) at (h.onward [] [] all_seen)

-- ---- stores one after the other

pub sets_append : (l out more : List ℕ) (i : ℕ) → sets l i (out ++ more) ≡ sets (sets l i out) (i + length out) more
sets_append l [] more i = let e : i + 0 ≡ i = omega arith in rw e
sets_append l (n ∷ out) more i =
    let e : i + suc (length out) ≡ suc i + length out = omega arith in
    rw e (sets_append (set l i n) out more (suc i))

-- ---- with the list

module _ {q : Question} {x : Said} where
  pub gone_none : {s : Kept} (l : List ℕ) → Legal (shape_in q) (span_of s.t) → Gone q x [] s l s l
  gone_none l h = record { out = []; passed = passed_none _; count = omega arith; list = refl; few = omega arith; legal = h }

  pub gone_then : {ns ms : List Spot} {s r v : Kept} {l m k : List ℕ} → Gone q x ns s l r m → Gone q x ms r m v k → Gone q x (ns ++ ms) s l v k
  gone_then {ns} {ms} {s} {l = l} a b = record {
    out = a.out ++ b.out;
    passed = passed_then a.passed b.passed;
    count = rw (length-append a.out b.out) (omega (arith, a.count, b.count));
    list = b.list ∙ rw (a.list, a.count) (sym (sets_append l a.out b.out s.count));
    few = rw (length-append a.out b.out, length-append ns ms) (omega (arith, a.few, b.few));
    legal = b.legal;
  }

-- ---- one bit

-- what is known of bit b of place p once both bounds g were looked at
pub record Looked (q : Question) (g : Bounds) (s : Kept) (p : Place) (b : ℕ) (l : List ℕ) (lo hi : ℕ) : Type 0 where
  pub asked : BitAsked q g s p b l
  pub low : lo ≡ bit (lo_of g p) b
  pub high : hi ≡ bit (hi_of g p) b

module _ {q : Question} {g : Bounds} {s : Kept} {p : Place} {b : ℕ} {l : List ℕ} {lo hi : ℕ} (k : Looked q g s p b l lo hi) where
  spot_none : lo ≢ hi → spot_at (span_of g) p b ≡ []
  unfolding fixed_bit
  spot_none d = rw (ne_eqb (bit (lo_of g p) b) (bit (hi_of g p) b) (λ e. d (k.low ∙ e ∙ sym k.high)))

  spot_one : lo ≡ hi → spot_at (span_of g) p b ≡ spot p b ∷ []
  unfolding fixed_bit
  spot_one e = rw (eq-eqb (bit (lo_of g p) b) (bit (hi_of g p) b) (sym k.low ∙ e ∙ k.high))

  -- an open bit is not gone through
  pub open_passed : {x : Said} → lo ≢ hi → Gone q x (spot_at (span_of g) p b) s l s l
  open_passed d = rw (spot_none d) (gone_none l k.asked.asks.legal)

  pub has_room : lo ≡ hi → s.count < length l
  has_room e =
      let r : s.count + length (spot p b ∷ []) ≤ length l = rw (spot_one e) at k.asked.room in
      omega arith

  module _ (same : lo ≡ hi) (u : Bounds) (eu : span_of u ≡ opened (span_of s.t) p b) where
    wider : Legal (shape_in q) (span_of u)
    wider = rw eu (opened_legal p b k.asked.asks.legal k.asked.below)

    -- the rule may be asked with the bit open
    pub wider_asks : Asks q u
    wider_asks = record { legal = wider; used = k.asked.asks.used; small = k.asked.asks.small }

    pub bit_dropped : {x : Said} → Says (shape_in q) (span_of u) (place_in q) q.bit (answer x)
        → Gone q x (spot_at (span_of g) p b) s l (record { t = u; count = s.count }) l
    bit_dropped h = rw (spot_one same) (record {
      out = [];
      passed = passed_dropped p b eu h;
      count = omega arith;
      list = refl;
      few = omega arith;
      legal = wider;
    })

    pub bit_kept : {x : Said} (n : ℕ) → n ≡ place_no p → ¬ Says (shape_in q) (span_of u) (place_in q) q.bit (answer x)
        → Gone q x (spot_at (span_of g) p b) s l (record { t = s.t; count = s.count + 1 }) (set l s.count (64 * n + b))
    bit_kept n e d = rw (spot_one same) (record {
      out = entry p b ∷ [];
      passed = passed_kept p b eu d;
      count = omega arith;
      list = rw e;
      few = omega arith;
      legal = k.asked.asks.legal;
    })
