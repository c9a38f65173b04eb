-- Whether values are a fit of a rule, as a test that computes.
use mathlib.Core.Bool.{Bool, true, false, not, ◌&&◌, ◌||◌}
use Prim.Native.Nat.{ℕ}
use lib.Dec.{T, eqb, leb, ltb, eqb→eq, eqb_refl, leb→le, le→leb, ltb→lt, lt→ltb, T_not, not_T}
use Rattle.lists.proofs.Bools.{both}
use Rattle.words.specs.Bits.{under, ◌⊑◌}
use Rattle.words.proofs.Ops.{under_sound, under_complete}
use Rattle.rules.specs.Kinds.{Place, R, A, B, S, Rel, ULE, ULT, NE, Kind, op, rel}
use Rattle.rules.specs.Rows.{uses}
use Rattle.rules.specs.Meaning.{Shape, result, Holds}
use Rattle.rules.specs.Fits.{Span, Uses, Fit}

-- ---- whether a kind holds

abbrev pub comparesb : Rel → ℕ → ℕ → Bool
comparesb ULE a b = leb a b
comparesb ULT a b = ltb a b
comparesb NE a b = not (eqb a b)

abbrev pub holdsb : Kind → (Place → ℕ) → ℕ → (Place → ℕ) → Bool
holdsb (op o) w k f = eqb (f R) (result o w k (f A) (f B) (f S))
holdsb (rel x) w k f = comparesb x (f A) (f B)

holdsb_sound : (κ : Kind) (w : Place → ℕ) (k : ℕ) (f : Place → ℕ) → T (holdsb κ w k f) → Holds κ w k f
holdsb_sound (op o) w k f t = eqb→eq (f R) _ t
holdsb_sound (rel ULE) w k f t = leb→le _ _ t
holdsb_sound (rel ULT) w k f t = ltb→lt _ _ t
holdsb_sound (rel NE) w k f t = λ e. T_not (eqb (f A) (f B)) t (rw e (eqb_refl (f B)))

holdsb_complete : (κ : Kind) (w : Place → ℕ) (k : ℕ) (f : Place → ℕ) → Holds κ w k f → T (holdsb κ w k f)
holdsb_complete (op o) w k f h = rw h (eqb_refl (result o w k (f A) (f B) (f S)))
holdsb_complete (rel ULE) w k f h = le→leb _ _ h
holdsb_complete (rel ULT) w k f h = lt→ltb _ _ h
holdsb_complete (rel NE) w k f h = not_T (eqb (f A) (f B)) (λ t. h (eqb→eq (f A) (f B) t))

-- ---- two tests in one

pub pair : (a b : Bool) → T a → T b → T (a && b)
pair true b x y = y
pair false b x y = absurd x

-- ---- whether values keep to the bounds and the rule holds for them

module _ (σ : Shape) (t : Span) where
  -- a place is unused, or its value keeps to its bounds
  unfoldable pub keepsb : (Place → ℕ) → Place → Bool
  keepsb f p = not (uses σ.kind p) || (under (t.lo p) (f p) && under (f p) (t.hi p))

  unfoldable pub fitb : (Place → ℕ) → Bool
  unfolding keepsb
  fitb f = keepsb f R && (keepsb f A && (keepsb f B && (keepsb f S && holdsb σ.kind σ.width σ.k f)))

  keepsb_sound : (f : Place → ℕ) (p : Place) → T (keepsb f p) → Uses σ p → (t.lo p ⊑ f p) × (f p ⊑ t.hi p)
  unfolding keepsb
  keepsb_sound f p h u = go (uses σ.kind p) u h
    where
      go : (b : Bool) → T b → T (not b || (under (t.lo p) (f p) && under (f p) (t.hi p))) → (t.lo p ⊑ f p) × (f p ⊑ t.hi p)
      go true u h = let (x, y) = both (under (t.lo p) (f p)) _ h in (under_sound _ _ x, under_sound _ _ y)
      go false u h = absurd u

  keepsb_complete : (f : Place → ℕ) (p : Place) → (Uses σ p → t.lo p ⊑ f p) → (Uses σ p → f p ⊑ t.hi p) → T (keepsb f p)
  unfolding keepsb
  keepsb_complete f p x y = go (uses σ.kind p) x y
    where
      go : (b : Bool) → (T b → t.lo p ⊑ f p) → (T b → f p ⊑ t.hi p) → T (not b || (under (t.lo p) (f p) && under (f p) (t.hi p)))
      go true x y = pair (under (t.lo p) (f p)) (under (f p) (t.hi p)) (under_complete _ _ (x tt)) (under_complete _ _ (y tt))
      go false x y = tt

  pub fitb_sound : (f : Place → ℕ) → T (fitb f) → Fit σ t f
  unfolding fitb
  fitb_sound f h =
      let (r, h₁) = both (keepsb f R) _ h in
      let (a, h₂) = both (keepsb f A) _ h₁ in
      let (b, h₃) = both (keepsb f B) _ h₂ in
      let (s, h₄) = both (keepsb f S) _ h₃ in
      let k : (p : Place) → Uses σ p → (t.lo p ⊑ f p) × (f p ⊑ t.hi p) =
      λ p. elim p as (λ q. Uses σ q → (t.lo q ⊑ f q) × (f q ⊑ t.hi q))
      [ R ↦ keepsb_sound f R r | A ↦ keepsb_sound f A a | B ↦ keepsb_sound f B b | S ↦ keepsb_sound f S s ] in
      record { from = λ p u. (k p u).0; to = λ p u. (k p u).1; holds = holdsb_sound σ.kind _ _ f h₄ }

  pub fitb_complete : (f : Place → ℕ) → Fit σ t f → T (fitb f)
  unfolding fitb
  fitb_complete f h =
      let k : (p : Place) → T (keepsb f p) = λ p. keepsb_complete f p (h.from p) (h.to p) in
      pair (keepsb f R) _ (k R)
      (pair (keepsb f A) _ (k A)
      (pair (keepsb f B) _ (k B)
      (pair (keepsb f S) _ (k S)
      (holdsb_complete σ.kind _ _ f h.holds))))
