-- An explanation is one: two answers, reasons or explanations that are allowed of the same question are equal.
use mathlib.Core.Path.{◌≡◌, refl, sym, ap, ◌∙◌}
use mathlib.Core.List.{List, ◌∷◌}
use Prim.Native.Nat.{ℕ}
use Rattle.rules.specs.Kinds.{Place}
use Rattle.rules.specs.Meaning.{Shape}
use Rattle.rules.specs.Fits.{Span}
use Rattle.reason_theory.specs.Says.{Answer, FORCED, Says, says_conflict, says_forced, says_free}
use Rattle.reason_theory.specs.Reason.{Spot, entry, Reason, all_seen, dropped, kept, Explains, no_reason, with_reason}

pub one_answer : {σ : Shape} {t : Span} {p : Place} {j : ℕ} {x y : Answer} → Says σ t p j x → Says σ t p j y → x ≡ y
one_answer (says_conflict n) (says_conflict m) = refl
one_answer (says_conflict n) (says_forced {f = f} b h a) = absurd (n f h)
one_answer (says_conflict n) (says_free {f = f} h k d) = absurd (n f h)
one_answer (says_forced {f = f} b h a) (says_conflict n) = absurd (n f h)
one_answer (says_forced {f = f} b h a) (says_forced c k e) = ap FORCED (sym (a f h) ∙ e f h)
one_answer (says_forced b h a) (says_free {f = f} {g = g} k l d) = absurd (d (a f k ∙ sym (a g l)))
one_answer (says_free {f = f} h k d) (says_conflict n) = absurd (n f h)
one_answer (says_free {f = f} {g = g} k l d) (says_forced b h a) = absurd (d (a f k ∙ sym (a g l)))
one_answer (says_free h k d) (says_free h' k' d') = refl

pub one_reason : {σ : Shape} {p : Place} {j : ℕ} {x : Answer} {t : Span} {ns : List Spot} {out out' : List ℕ}
    → Reason σ p j x t ns out → Reason σ p j x t ns out' → out ≡ out'
one_reason all_seen all_seen = refl
one_reason (dropped s r) (dropped s' r') = one_reason r r'
one_reason (dropped s r) (kept n r') = absurd (n s)
one_reason (kept n r) (dropped s r') = absurd (n s)
one_reason (kept {q = q} {b = b} n r) (kept n' r') = ap (λ (l : List ℕ). entry q b ∷ l) (one_reason r r')

pub one_explanation : {σ : Shape} {t : Span} {p : Place} {j : ℕ} {x y : Answer} {out out' : List ℕ}
    → Explains σ t p j x out → Explains σ t p j y out' → (x ≡ y) × (out ≡ out')
one_explanation (no_reason s) (no_reason s') = (refl, refl)
one_explanation (no_reason s) (with_reason n s' r) = absurd (n (one_answer s' s))
one_explanation (with_reason n s r) (no_reason s') = absurd (n (one_answer s s'))
one_explanation (with_reason n s r) (with_reason n' s' r') =
    let e = one_answer s s' in
    (e, one_reason r (rw (← e) at r'))
