-- What the narrowing of a rule says of a bit is what the rule says of it; and whether an answer stays is told by comparing it with the one that is found.
use mathlib.Core.Path.{◌≡◌, refl, sym, ap, ◌∙◌, subst}
use mathlib.Core.Logic.{◌≢◌}
use mathlib.Core.Bool.{Bool, true, false}
use Prim.Native.Nat.{ℕ}
use native.Mathlib.Omega.{arith}
use Rattle.std.proofs.Common.{Option, None, Some}
use lib.Dec.{eqb}
use borrow.Author.Tests.{eqb-true, eqb-false, eq-eqb, ne_eqb}
use Rattle.words.specs.Bits.{bit}
use Rattle.words.proofs.Order.{bit_lt}
use Rattle.rules.specs.Kinds.{Place}
use Rattle.rules.specs.Meaning.{Shape}
use Rattle.rules.specs.Fits.{Span, Uses}
use Rattle.lists.specs.Tests.{Decides, holds, fails}
use Rattle.problem.specs.Places.{Bounds, lo_of, hi_of}
use Rattle.hull.specs.Narrowing.{Leaves, Narrows}
use Rattle.reason_theory.specs.Says.{Answer, CONFLICT, FORCED, FREE, Says, says_conflict, says_forced, says_free}
use Rattle.reason_theory.proofs.One.{one_answer}
use Rattle.explain.specs.declared.Said.{Said}
use Rattle.explain.specs.declared.Said.TheVariants as said
use Rattle.explain.specs.declared.Question.{Question}
use Rattle.explain.specs.Asking.{shape_in, place_in, answer, by_hull, said_by}

-- ---- the answer by the hull

module _ (q : Question) (u : Bounds) {l h : ℕ} (el : l ≡ bit (lo_of u (place_in q)) q.bit) (eh : h ≡ bit (hi_of u (place_in q)) q.bit) where
  pub read_forced : l ≡ h → said.Forced l ≡ said_by q (Some u)
  unfolding said_by
  read_forced s = rw (eq-eqb (bit (lo_of u (place_in q)) q.bit) (bit (hi_of u (place_in q)) q.bit) (sym el ∙ s ∙ eh), el)

  pub read_free : l ≢ h → said.Free ≡ said_by q (Some u)
  unfolding said_by
  read_free d = rw (ne_eqb (bit (lo_of u (place_in q)) q.bit) (bit (hi_of u (place_in q)) q.bit) (λ s. d (el ∙ s ∙ sym eh)))

pub read_conflict : (q : Question) → said.Conflict ≡ said_by q None
unfolding said_by
read_conflict q = refl

module _ {σ : Shape} {t : Span} {o : Bounds} (n : Leaves σ t o) (p : Place) (u : Uses σ p) (j : ℕ) where
  -- with a fit: l and h are the bits of the hull's bounds at p
  hull_said : (l h : ℕ) → l ≡ bit (lo_of o p) j → h ≡ bit (hi_of o p) j → (c : Bool) → eqb l h ≡ c → Says σ t p j (answer (by_hull c l))
  hull_said l h el eh true s =
      let x = n.hull p u in
      let same = eqb-true l h s in
      says_forced l n.some.1 (λ g git. omega (arith, (x.from g git).bits j, (x.to g git).bits j))
  hull_said l h el eh false s =
      let x = n.hull p u in
      let (f, fit) = n.some in
      let differ = eqb-false l h s in
      let under = (x.from f fit).bits j in
      let above = (x.to f fit).bits j in
      let top = bit_lt (hi_of o p) j in
      let (g, git, zero) = x.off j (omega arith) in
      let (k, kit, one) = x.on j (omega arith) in
      says_free git kit (omega arith)

-- what is read off a narrowing of the rule is what the rule says of the bit
pub narrow_said : (q : Question) {t : Span} (o : Option Bounds) → Narrows (shape_in q) t o → Uses (shape_in q) (place_in q)
    → Says (shape_in q) t (place_in q) q.bit (answer (said_by q o))
unfolding said_by
narrow_said q None n u = says_conflict n
narrow_said q (Some o) n u = hull_said n (place_in q) u q.bit _ _ refl refl _ refl

-- ---- two answers compared

-- CONFLICT, FORCED and FREE are three
pub conflict_free : ¬ (CONFLICT ≡ FREE)
conflict_free e = cc

pub forced_free : {b : ℕ} → ¬ (FORCED b ≡ FREE)
forced_free e = cc

answer_once : (x y : Said) → answer x ≡ answer y → y ≡ x
answer_once said.Conflict said.Conflict e = refl
answer_once said.Conflict (said.Forced u) e = cc
answer_once said.Conflict said.Free e = cc
answer_once (said.Forced v) said.Conflict e = cc
answer_once (said.Forced v) (said.Forced u) e = cc
answer_once (said.Forced v) said.Free e = cc
answer_once said.Free said.Conflict e = cc
answer_once said.Free (said.Forced u) e = cc
answer_once said.Free said.Free e = refl

pub compared : (x y : Said) (b : Bool) → (b ≡ true → y ≡ x) → (b ≡ false → y ≢ x) → Decides (answer x ≡ answer y) b
compared x y true same other = holds (ap answer (sym (same refl)))
compared x y false same other = fails (λ e. other refl (answer_once x y e))

-- the answer y was found, and is compared with x
pub compared_stays : {σ : Shape} {t : Span} {p : Place} {j : ℕ} {x y : Answer} {r : Bool} → Says σ t p j y → Decides (x ≡ y) r
    → Decides (Says σ t p j x) r
compared_stays {σ} {t} {p} {j} s (holds e) = holds (subst (Says σ t p j) (sym e) s)
compared_stays s (fails d) = fails (λ z. d (one_answer z s))
