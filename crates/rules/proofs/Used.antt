-- The meaning of a rule speaks of the places that it uses and of no other, and a kind that uses r computes it.
use mathlib.Core.Path.{◌≡◌, sym, ◌∙◌}
use mathlib.Core.Logic.{◌≢◌}
use Prim.Native.Nat.{ℕ}
use native.Mathlib.Omega.{arith}
use lib.Dec.{T}
use Rattle.rules.specs.Kinds.{Place, R, A, B, S, Kind, op, rel, Op, COPY, NOT, AND, OR, XOR, ADD, ITE, SLICE, JOIN, SHL, SHR, ULE, ULT, NE}
use Rattle.rules.specs.Rows.{row, operand, uses}
use Rattle.rules.specs.Meaning.{result, Holds}

pub result_used : (o : Op) (w : Place → ℕ) (k a b s a' b' s' : ℕ) → a ≡ a' → (T (operand (row o) B) → b ≡ b') → (T (operand (row o) S) → s ≡ s')
    → result o w k a b s ≡ result o w k a' b' s'
result_used COPY w k a b s a' b' s' p q r = p
result_used NOT w k a b s a' b' s' p q r = cc
result_used AND w k a b s a' b' s' p q r = cc (q tt)
result_used OR w k a b s a' b' s' p q r = cc (q tt)
result_used XOR w k a b s a' b' s' p q r = cc (q tt)
result_used ADD w k a b s a' b' s' p q r = cc (q tt)
result_used ITE w k a b s a' b' s' p q r = cc (q tt, r tt)
result_used SLICE w k a b s a' b' s' p q r = cc
result_used JOIN w k a b s a' b' s' p q r = cc (q tt)
result_used SHL w k a b s a' b' s' p q r = cc
result_used SHR w k a b s a' b' s' p q r = cc

pub only_used : (κ : Kind) (w : Place → ℕ) (k : ℕ) (f g : Place → ℕ) → ((p : Place) → T (uses κ p) → f p ≡ g p) → Holds κ w k f → Holds κ w k g
only_used (op o) w k f g e h = sym (e R tt) ∙ h ∙ result_used o w k _ _ _ _ _ _ (e A tt) (e B) (e S)
only_used (rel ULE) w k f g e h = omega (arith, e A tt, e B tt)
only_used (rel ULT) w k f g e h = omega (arith, e A tt, e B tt)
only_used (rel NE) w k f g e h = omega (arith, e A tt, e B tt)

pub A≢R : A ≢ R
A≢R e = let z : ◌≡◌ {A = ℕ} 0 1 = cc in omega arith

pub B≢R : B ≢ R
B≢R e = let z : ◌≡◌ {A = ℕ} 0 1 = cc in omega arith

pub S≢R : S ≢ R
S≢R e = let z : ◌≡◌ {A = ℕ} 0 1 = cc in omega arith

-- a kind that uses r computes it: it gives one value at r for the values at its other places
pub computed : (κ : Kind) (w : Place → ℕ) (k : ℕ) (f g : Place → ℕ) → T (uses κ R) → ((p : Place) → T (uses κ p) → p ≢ R → f p ≡ g p)
    → Holds κ w k f → Holds κ w k g → f R ≡ g R
computed (op o) w k f g c e h h' = h ∙ result_used o w k _ _ _ _ _ _ (e A tt A≢R) (λ u. e B u B≢R) (λ u. e S u S≢R) ∙ sym h'
computed (rel x) w k f g c e h h' = absurd c
