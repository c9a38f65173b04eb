-- Explanations computed from the definitions by going through every fit: each question about a legal rule has one, and this is it.
use mathlib.Core.Path.{◌≡◌, refl, subst}
use mathlib.Core.Logic.{◌≢◌}
use mathlib.Core.Bool.{Bool, true, false}
use mathlib.Core.List.{List, [], ◌∷◌}
use Prim.Native.Nat.{ℕ}
use native.Mathlib.Omega.{arith}
use lib.Dec.{T}
use Rattle.rules.specs.Kinds.{Place}
use Rattle.rules.specs.Meaning.{Shape}
use Rattle.rules.specs.Fits.{Span, Uses, Legal}
use Rattle.reason_theory.specs.Says.{Answer, CONFLICT, FORCED, FREE, Says}
use Rattle.reason_theory.specs.Reason.{Spot, spot, entry, cleared, filled, placed, opened, Reason, all_seen, dropped, kept, fixed_bit, fixed_from}
use Rattle.reason_theory.specs.Reason.{fixed_at, fixed_of, Explains, no_reason, with_reason}
use Rattle.reason_theory.proofs.Opened.{opened_legal}
use Rattle.reason_theory.proofs.Rising.{Rising, no_more, next, fixed_rising}
use Rattle.reason_theory.proofs.Answered.{answer_of, answer_right, answer_only, sameb, same_sound, same_refl}

-- one of two lists, of which the other is not computed
abbrev pub branch : Bool → (Unit {0} → List ℕ) → (Unit {0} → List ℕ) → List ℕ
branch true a b = a tt
branch false a b = b tt

module _ (σ : Shape) (p : Place) (j : ℕ) (x : Answer) where
  unfoldable pub reason_of : List Spot → Span → List ℕ
  unfolding answer_of opened placed cleared filled
  reason_of [] t = []
  reason_of (spot q b ∷ ns) t = branch (sameb (answer_of σ (opened t q b) p j) x) (λ z. reason_of ns (opened t q b)) (λ z. entry q b ∷ reason_of ns t)

  pub reason_right : {n : ℕ} {ns : List Spot} (t : Span) → Rising σ n ns → Legal σ t → Uses σ p → Reason σ p j x t ns (reason_of ns t)
  unfolding reason_of
  reason_right t no_more legal u = all_seen
  reason_right t (next {b = b} {q = q} {ns = ns} v w h r) legal u =
      go (sameb (answer_of σ (opened t q b) p j) x) refl (λ s l. reason_right s r l u)
    where
      wide : Legal σ (opened t q b)
      wide = opened_legal q b legal w

      says : Says σ (opened t q b) p j (answer_of σ (opened t q b) p j)
      says = answer_right p j wide u

      other : sameb (answer_of σ (opened t q b) p j) x ≡ false → ¬ Says σ (opened t q b) p j x
      other e s = subst T e (rw (← answer_only p j wide u s) (same_refl x))

      go : (y : Bool) → sameb (answer_of σ (opened t q b) p j) x ≡ y → ((s : Span) → Legal σ s → Reason σ p j x s ns (reason_of ns s))
          → Reason σ p j x t (spot q b ∷ ns) (branch y (λ z. reason_of ns (opened t q b)) (λ z. entry q b ∷ reason_of ns t))
      go true e ih = dropped (rw (same_sound (answer_of σ (opened t q b) p j) x (rw e tt)) at says) (ih (opened t q b) wide)
      go false e ih = kept (other e) (ih t legal)

-- ---- both

-- the list that goes with an answer
abbrev pub reason_for : Shape → Span → Place → ℕ → Answer → List ℕ
reason_for σ t p j CONFLICT = reason_of σ p j CONFLICT (fixed_of σ t) t
reason_for σ t p j (FORCED b) = reason_of σ p j (FORCED b) (fixed_of σ t) t
reason_for σ t p j FREE = []

unfoldable pub explained : Shape → Span → Place → ℕ → Answer × List ℕ
unfolding answer_of reason_of fixed_of fixed_at fixed_from fixed_bit
explained σ t p j = (answer_of σ t p j, reason_for σ t p j (answer_of σ t p j))

module _ {σ : Shape} {t : Span} {p : Place} (legal : Legal σ t) (u : Uses σ p) (j : ℕ) where
  pub explained_right : Explains σ t p j (explained σ t p j).0 (explained σ t p j).1
  unfolding explained
  explained_right = go (answer_of σ t p j) (answer_right p j legal u)
    where
      given : (x : Answer) → x ≢ FREE → Says σ t p j x → Explains σ t p j x (reason_of σ p j x (fixed_of σ t) t)
      given x n s = with_reason n s (reason_right σ p j x t (fixed_rising legal) legal u)

      go : (x : Answer) → Says σ t p j x → Explains σ t p j x (reason_for σ t p j x)
      go CONFLICT s = given CONFLICT (λ e. let z : ◌≡◌ {A = ℕ} 0 1 = cc in omega arith) s
      go (FORCED b) s = given (FORCED b) (λ e. let z : ◌≡◌ {A = ℕ} 0 1 = cc in omega arith) s
      go FREE s = no_reason s

  pub every_explanation : (x : Answer) × (out : List ℕ) × Explains σ t p j x out
  every_explanation = ((explained σ t p j).0, (explained σ t p j).1, explained_right)
