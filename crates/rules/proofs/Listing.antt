-- All fits of a rule, listed: the operands go through the values between their bounds, r is computed, and what is no fit is left out.
use mathlib.Core.Path.{◌≡◌, ◌∙◌}
use mathlib.Core.Bool.{Bool, true, false}
use mathlib.Core.List.{List, [], ◌∷◌, map}
use Prim.Native.Nat.{ℕ, ◌^◌, ◌<◌}
use native.Mathlib.Omega.{arith}
use lib.Dec.{T}
use Rattle.words.specs.Bits.{◌⊑◌}
use Rattle.words.proofs.Order.{⊑_le}
use Rattle.rules.specs.Kinds.{Place, R, A, B, S, Kind, op, rel}
use Rattle.rules.specs.Rows.{uses}
use Rattle.rules.specs.Meaning.{Shape, result, Holds}
use Rattle.rules.specs.Fits.{Span, Uses, Fit}
use Rattle.rules.proofs.Used.{result_used, only_used}
use Rattle.lists.specs.Every.{Any, here, All}
use Rattle.lists.proofs.Every.{each, sift, any_imp, any_sift, all_sift, any_map, any_each}
use Rattle.rules.proofs.Choices.{choices, choices_all}
use Rattle.rules.proofs.FitTest.{fitb, fitb_sound, fitb_complete}

-- the values of the four places
abbrev pub values : ℕ → ℕ → ℕ → ℕ → Place → ℕ
values r a b s R = r
values r a b s A = a
values r a b s B = b
values r a b s S = s

-- what stands at r: the result, where the kind computes one
abbrev pub result_or0 : Kind → (Place → ℕ) → ℕ → ℕ → ℕ → ℕ → ℕ
result_or0 (op o) w k a b s = result o w k a b s
result_or0 (rel x) w k a b s = 0

abbrev pub list_or0 : Bool → List ℕ → List ℕ
list_or0 true l = l
list_or0 false l = 0 ∷ []

module _ (σ : Shape) (t : Span) where
  -- the values that a place may take; 0 where it is not used
  unfoldable pub allowed : Place → List ℕ
  unfolding choices
  allowed p = list_or0 (uses σ.kind p) (choices (σ.width p) (t.lo p) (t.hi p))

  unfoldable pub candidate : ℕ → ℕ → ℕ → Place → ℕ
  candidate a b s = values (result_or0 σ.kind σ.width σ.k a b s) a b s

  unfoldable pub candidates : List (Place → ℕ)
  unfolding allowed candidate
  candidates = each (allowed A) λ a. each (allowed B) λ b. map (candidate a b) (allowed S)

  unfoldable pub fits : List (Place → ℕ)
  unfolding candidates fitb
  fits = sift (fitb σ t) candidates

  -- each that is listed is a fit
  pub fits_sound : All (Fit σ t) fits
  unfolding fits
  fits_sound = all_sift (Fit σ t) (fitb σ t) (fitb_sound σ t) candidates

  -- f and g agree at the places in use
  abbrev pub Like : (Place → ℕ) → (Place → ℕ) → Type 0
  Like f g = (p : Place) → Uses σ p → f p ≡ g p

  like_fit : (f g : Place → ℕ) → Fit σ t f → Like f g → Fit σ t g
  like_fit f g h e = record {
    from = λ p u. rw (e p u) at (h.from p u);
    to = λ p u. rw (e p u) at (h.to p u);
    holds = only_used σ.kind _ _ f g e h.holds;
  }

  -- the candidate of f's operands has f's value at r too
  like_candidate : (f : Place → ℕ) → Fit σ t f → (a b s : ℕ) → (Uses σ A → f A ≡ a) → (Uses σ B → f B ≡ b) → (Uses σ S → f S ≡ s)
      → Like f (candidate a b s)
  unfolding candidate
  like_candidate f h a b s ea eb es R u = listed σ.kind σ.width σ.k h.holds u ea eb es
    where
      listed : (κ : Kind) (w : Place → ℕ) (k : ℕ) → Holds κ w k f → T (uses κ R)
          → (T (uses κ A) → f A ≡ a) → (T (uses κ B) → f B ≡ b) → (T (uses κ S) → f S ≡ s) → f R ≡ result_or0 κ w k a b s
      listed (op o) w k h u ea eb es = h ∙ result_used o w k _ _ _ _ _ _ (ea tt) eb es
      listed (rel x) w k h u ea eb es = absurd u
  like_candidate f h a b s ea eb es A u = ea u
  like_candidate f h a b s ea eb es B u = eb u
  like_candidate f h a b s ea eb es S u = es u

  module _ (widths : (p : Place) → Uses σ p → t.hi p < 2 ^ σ.width p) where
    allowed_all : (p : Place) (v : ℕ) → (Uses σ p → t.lo p ⊑ v) → (Uses σ p → v ⊑ t.hi p) → Any (λ x. Uses σ p → v ≡ x) (allowed p)
    unfolding allowed
    allowed_all p v x y = go (uses σ.kind p) x y (widths p)
      where
        go : (b : Bool) → (T b → t.lo p ⊑ v) → (T b → v ⊑ t.hi p) → (T b → t.hi p < 2 ^ σ.width p)
            → Any (λ x. T b → v ≡ x) (list_or0 b (choices (σ.width p) (t.lo p) (t.hi p)))
        go true x y l = any_imp (λ z e u. e) (choices_all (σ.width p) (t.lo p) (t.hi p) v (omega (arith, ⊑_le _ _ (y tt), l tt)) (x tt) (y tt))
        go false x y l = here (λ u. absurd u)

    -- each fit is listed, but for what it says of places that the rule does not use
    pub fits_complete : (f : Place → ℕ) → Fit σ t f → Any (Like f) fits
    unfolding fits
    fits_complete f h =
        any_sift (fitb σ t) (λ g e. fitb_complete σ t g (like_fit f g h e))
        (any_each _ (λ a ea. any_each _ (λ b eb. any_map (candidate a b) (λ s es. like_candidate f h a b s ea eb es)
        (allowed_all S (f S) (h.from S) (h.to S)))
        (allowed_all B (f B) (h.from B) (h.to B)))
        (allowed_all A (f A) (h.from A) (h.to A)))
