-- To be believed: the fits of a rule over its own four places, and the hull of the fits.
-- Each field of a rule is a place of its own, so nothing here speaks of words: a table comes in by `Tight`.
use Rattle.std.specs.Prelude.{◌≡◌, ℕ, T}
use Rattle.words.specs.Bits.{bit, ◌⊑◌}
use Rattle.words.specs.Word.{Width, Bounded}
use Rattle.rules.specs.Kinds.{Place}
use Rattle.rules.specs.Rows.{uses, Fitting}
use Rattle.rules.specs.Meaning.{Shape, Holds}

-- the two bounds of each place
pub record Span : Type 0 where
  pub lo : Place → ℕ
  pub hi : Place → ℕ

abbrev pub Uses : Shape → Place → Type 0
Uses σ p = T (uses σ.kind p)

-- widths and bounds are proper at each place in use
pub record Legal (σ : Shape) (t : Span) : Type 0 where
  pub fitting : Fitting σ.kind σ.width σ.k
  pub width : (p : Place) → Uses σ p → Width (σ.width p)
  pub bounded : (p : Place) → Uses σ p → Bounded (σ.width p) (t.lo p) (t.hi p)

-- a fit: a value for each place in use, between the bounds there, for which the rule holds
pub record Fit (σ : Shape) (t : Span) (f : Place → ℕ) : Type 0 where
  pub from : (p : Place) → Uses σ p → t.lo p ⊑ f p
  pub to : (p : Place) → Uses σ p → f p ⊑ t.hi p
  pub holds : Holds σ.kind σ.width σ.k f

-- l and h are the hull of the fits at place p: a bit is 0 in l just where some fit has 0, and 1 in h just where some fit has 1
pub record Hull (σ : Shape) (t : Span) (p : Place) (l h : ℕ) : Type 0 where
  pub from : (f : Place → ℕ) → Fit σ t f → l ⊑ f p
  pub to : (f : Place → ℕ) → Fit σ t f → f p ⊑ h
  pub off : (j : ℕ) → bit l j ≡ 0 → (f : Place → ℕ) × Fit σ t f × (bit (f p) j ≡ 0)
  pub on : (j : ℕ) → bit h j ≡ 1 → (f : Place → ℕ) × Fit σ t f × (bit (f p) j ≡ 1)
