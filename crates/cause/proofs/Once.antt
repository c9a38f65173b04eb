-- Two results that the promise of `cause` allows are equal: the answer, every number of the list, and every number of work memory.
use mathlib.Core.Path.{◌≡◌, refl, sym, ◌∙◌}
use mathlib.Core.List.{List}
use Prim.Native.Nat.{ℕ, ◌<◌}
use native.Mathlib.Omega.{arith}
use native.Mathlib.Decide.{dec_lt}
use lib.ListN.{length}
use lib.Seq.{ext_get_or}
use Rattle.checker.proofs.Firsts.{refused_not_ok}
use Rattle.lists.specs.Lists.{at}
use Rattle.problem.specs.Lent.{widths_of, table_of, rules_of}
use Rattle.tighten.proofs.Once.{cleared_once}
use Rattle.cause_theory.specs.Cause.{Cause, EXISTS, CAUSE, GAVE_UP}
use Rattle.cause_theory.proofs.One.{one_cause}
use Rattle.std.specs.Prelude.{Result}
use Rattle.checker.specs.declared.refusal.Refusal.{Refusal}
use Rattle.cause.specs.declared.Caused.{Caused}
use Rattle.cause.specs.Promise.{Named, Entered, Causing, refused, exists_at, gave_up_at, caused_by}

entered_once : {out s a b : List ℕ} → Entered out s a → Entered out s b → a ≡ b
entered_once {out} {s} {a} {b} x y = ext_get_or 0 a b (x.size ∙ sym y.size) (λ i h. go i (dec_lt i (length out)))
  where
    go : (i : ℕ) → Dec (i < length out) → at a i ≡ at b i
    go i (yes h) = x.each i h ∙ sym (y.each i h)
    go i (no h) = x.rest i (omega arith) ∙ sym (y.rest i (omega arith))

named_once : (limit : ℕ) (ws bs : List ℕ) {x y : Cause} → Named limit ws bs x → Named limit ws bs y → x ≡ y
named_once limit ws bs a b = one_cause (widths_of ws) (rules_of bs) limit (table_of ws) a b

exists_not_gave_up : {a b : ℕ} → EXISTS a ≡ GAVE_UP b → ⊥
exists_not_gave_up e = let z : ◌≡◌ {A = ℕ} 0 1 = cc in omega arith

exists_not_cause : {a b : ℕ} {out : List ℕ} → EXISTS a ≡ CAUSE out b → ⊥
exists_not_cause e = let z : ◌≡◌ {A = ℕ} 0 1 = cc in omega arith

gave_up_not_cause : {a b : ℕ} {out : List ℕ} → GAVE_UP a ≡ CAUSE out b → ⊥
gave_up_not_cause e = let z : ◌≡◌ {A = ℕ} 0 1 = cc in omega arith

module _ {limit : ℕ} {ws bs s l : List ℕ} where
  pub cause_once : {x y : Result Caused Refusal} {a b k n : List ℕ} → Causing limit ws bs s l x a k → Causing limit ws bs s l y b n
      → (x ≡ y) × (a ≡ b) × (k ≡ n)
  cause_once (refused e) (refused e') = (cc, refl, refl)
  cause_once (refused e) (exists_at g c x) = absurd (refused_not_ok e g.passed)
  cause_once (refused e) (gave_up_at g c x) = absurd (refused_not_ok e g.passed)
  cause_once (refused e) (caused_by g c q h x) = absurd (refused_not_ok e g.passed)
  cause_once (exists_at g c x) (refused e) = absurd (refused_not_ok e g.passed)
  cause_once (exists_at g c x) (exists_at g' c' x') = let e = named_once limit ws bs c c' in (cc, refl, cleared_once x x')
  cause_once (exists_at g c x) (gave_up_at g' c' x') = absurd (exists_not_gave_up (named_once limit ws bs c c'))
  cause_once (exists_at g c x) (caused_by g' c' q h x') = absurd (exists_not_cause (named_once limit ws bs c c'))
  cause_once (gave_up_at g c x) (refused e) = absurd (refused_not_ok e g.passed)
  cause_once (gave_up_at g c x) (exists_at g' c' x') = absurd (exists_not_gave_up (named_once limit ws bs c' c))
  cause_once (gave_up_at g c x) (gave_up_at g' c' x') = let e = named_once limit ws bs c c' in (cc, refl, cleared_once x x')
  cause_once (gave_up_at g c x) (caused_by g' c' q h x') = absurd (gave_up_not_cause (named_once limit ws bs c c'))
  cause_once (caused_by g c q h x) (refused e) = absurd (refused_not_ok e g.passed)
  cause_once (caused_by g c q h x) (exists_at g' c' x') = absurd (exists_not_cause (named_once limit ws bs c' c))
  cause_once (caused_by g c q h x) (gave_up_at g' c' x') = absurd (gave_up_not_cause (named_once limit ws bs c' c))
  cause_once (caused_by {out = out} g c q h x) (caused_by {out = out'} {list' = b} g' c' q' h' x') =
      let e = named_once limit ws bs c c' in
      let same : out ≡ out' = cc in
      (cc, entered_once h (rw (← same) at h'), cleared_once x x')
