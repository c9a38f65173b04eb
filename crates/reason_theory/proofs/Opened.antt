-- A bit treated as open at one place: the bounds there get wider, the bounds of the other places stay, and widths are kept to.
use mathlib.Core.Path.{◌≡◌, refl, sym, ap, ◌∙◌}
use mathlib.Core.Logic.{◌≢◌, ◌⊎◌, inl, inr}
use mathlib.Core.Bool.{Bool, true, false, cond}
use mathlib.Core.List.{[], ◌∷◌}
use Prim.Native.Nat.{ℕ, ◌+◌, ◌*◌, ◌^◌, ◌<◌, ◌-◌}
use native.Mathlib.Omega.{arith}
use lib.Dec.{eqb}
use lib.ListN.{get_or}
use borrow.Author.Tests.{eqb-true, ne_eqb}
use Rattle.words.specs.Bits.{bit, ◌⊑◌}
use Rattle.words.specs.Word.{Bounded}
use Rattle.words.proofs.Order.{⊑_refl, ⊑_trans, bit_cases}
use Rattle.words.proofs.OneBit.{set_same, clear_same, clear_⊑, ⊑_clear, ⊑_set, set_⊑}
use Rattle.words.proofs.Single.{set_lt}
use Rattle.rules.specs.Kinds.{Place, R, A, B, S}
use Rattle.rules.specs.Meaning.{Shape}
use Rattle.rules.specs.Fits.{Span, Uses, Legal, Fit}
use Rattle.rules.proofs.Hulls.{fit_wider}
use Rattle.reason_theory.specs.Reason.{place_no, cleared, filled, placed, opened}

-- ---- a bit made 0, and made 1

module _ (n b : ℕ) where
  -- either the bit is as wanted and the number stays, or 2^b goes or comes
  cleared_by : (P : ℕ → Type 0) → (bit n b ≡ 0 → P n) → (bit n b ≡ 1 → P (n - 2 ^ b)) → P (cleared n b)
  unfolding cleared
  cleared_by P off on = go (bit_cases n b)
    where
      go : (bit n b ≡ 0) ⊎ (bit n b ≡ 1) → P (n - bit n b * 2 ^ b)
      go (inl z) = let e : n - bit n b * 2 ^ b ≡ n = rw z (omega arith) in rw e (off z)
      go (inr o) = let e : n - bit n b * 2 ^ b ≡ n - 2 ^ b = rw o (omega arith) in rw e (on o)

  filled_by : (P : ℕ → Type 0) → (bit n b ≡ 0 → P (n + 2 ^ b)) → (bit n b ≡ 1 → P n) → P (filled n b)
  unfolding filled
  filled_by P off on = go (bit_cases n b)
    where
      go : (bit n b ≡ 0) ⊎ (bit n b ≡ 1) → P (n + (1 - bit n b) * 2 ^ b)
      go (inl z) = let e : n + (1 - bit n b) * 2 ^ b ≡ n + 2 ^ b = rw z (omega arith) in rw e (off z)
      go (inr o) = let e : n + (1 - bit n b) * 2 ^ b ≡ n = rw o (omega arith) in rw e (on o)

  pub cleared_same : bit (cleared n b) b ≡ 0
  cleared_same = cleared_by (λ x. bit x b ≡ 0) (λ z. z) (clear_same b n)

  pub filled_same : bit (filled n b) b ≡ 1
  filled_same = filled_by (λ x. bit x b ≡ 1) (set_same b n) (λ o. o)

  pub cleared_⊑ : cleared n b ⊑ n
  cleared_⊑ = cleared_by (λ x. x ⊑ n) (λ z. ⊑_refl n) (clear_⊑ b n)

  pub ⊑_filled : n ⊑ filled n b
  ⊑_filled = filled_by (λ x. n ⊑ x) (⊑_set b n) (λ o. ⊑_refl n)

  pub filled_lt : (w : ℕ) → b < w → n < 2 ^ w → filled n b < 2 ^ w
  filled_lt w l h = filled_by (λ x. x < 2 ^ w) (λ z. set_lt b w n z l h) (λ o. h)

pub cleared_mono : {m n : ℕ} (b : ℕ) → m ⊑ n → cleared m b ⊑ cleared n b
cleared_mono {m} {n} b h =
    let below : cleared m b ⊑ n = ⊑_trans (cleared_⊑ m b) h in
    cleared_by n b (λ x. cleared m b ⊑ x) (λ z. below) (λ o. ⊑_clear b o below (cleared_same m b))

pub filled_mono : {m n : ℕ} (b : ℕ) → m ⊑ n → filled m b ⊑ filled n b
filled_mono {m} {n} b h =
    let above : m ⊑ filled n b = ⊑_trans h (⊑_filled n b) in
    filled_by m b (λ x. x ⊑ filled n b) (λ z. set_⊑ b z above (filled_same n b)) (λ o. above)

-- ---- one place

place_of : (p : Place) → get_or (R ∷ A ∷ B ∷ S ∷ []) (place_no p) R ≡ p
place_of R = refl
place_of A = refl
place_of B = refl
place_of S = refl

-- places with one number are one place
pub place_one : (p q : Place) → place_no p ≡ place_no q → p ≡ q
place_one p q e = sym (place_of p) ∙ ap (λ (n : ℕ). get_or (R ∷ A ∷ B ∷ S ∷ []) n R) e ∙ place_of q

-- a fact of the numbers at each place, after one of each was replaced
pub placed_all : (P : Place → ℕ → ℕ → Type 0) {x y : ℕ} {f g : Place → ℕ} (p : Place) → P p x y → ((q : Place) → P q (f q) (g q))
    → (q : Place) → P q (placed p x f q) (placed p y g q)
unfolding placed
placed_all P {x} {y} {f} {g} p here rest q = go (eqb (place_no p) (place_no q)) refl
  where
    go : (c : Bool) → eqb (place_no p) (place_no q) ≡ c → P q (cond c x (f q)) (cond c y (g q))
    go true e = rw (← place_one p q (eqb-true _ _ e)) here
    go false e = rest q

pub placed_other : (p q : Place) (x : ℕ) (f : Place → ℕ) → p ≢ q → placed p x f q ≡ f q
unfolding placed
placed_other p q x f d = rw (ne_eqb (place_no p) (place_no q) (λ e. d (place_one p q e)))

-- the other places keep their bounds
pub opened_elsewhere : (t : Span) (p q : Place) (b : ℕ) → p ≢ q → ((opened t p b).lo q ≡ t.lo q) × ((opened t p b).hi q ≡ t.hi q)
unfolding opened
opened_elsewhere t p q b d = (placed_other p q _ t.lo d, placed_other p q _ t.hi d)

-- ---- wider bounds

-- the bounds s lie between the bounds t
pub record Within (s t : Span) : Type 0 where
  pub low : (p : Place) → t.lo p ⊑ s.lo p
  pub top : (p : Place) → s.hi p ⊑ t.hi p

pub within_refl : (t : Span) → Within t t
within_refl t = record { low = λ p. ⊑_refl (t.lo p); top = λ p. ⊑_refl (t.hi p) }

pub within_trans : {s t u : Span} → Within s t → Within t u → Within s u
within_trans h k = record { low = λ p. ⊑_trans (k.low p) (h.low p); top = λ p. ⊑_trans (h.top p) (k.top p) }

pub within_fit : {σ : Shape} {s t : Span} {f : Place → ℕ} → Within s t → Fit σ s f → Fit σ t f
within_fit h fit = fit_wider h.low h.top fit

pub opened_mono : {s t : Span} (p : Place) (b : ℕ) → Within s t → Within (opened s p b) (opened t p b)
unfolding opened
opened_mono {s} {t} p b h = record {
  low = placed_all (λ q x y. x ⊑ y) p (cleared_mono b (h.low p)) h.low;
  top = placed_all (λ q x y. x ⊑ y) p (filled_mono b (h.top p)) h.top;
}

pub opened_wider : (t : Span) (p : Place) (b : ℕ) → Within t (opened t p b)
unfolding opened
opened_wider t p b = record {
  low = placed_all (λ q x y. x ⊑ t.lo q) {y = 0} {g = t.lo} p (cleared_⊑ (t.lo p) b) (λ q. ⊑_refl (t.lo q));
  top = placed_all (λ q x y. t.hi q ⊑ x) {y = 0} {g = t.hi} p (⊑_filled (t.hi p) b) (λ q. ⊑_refl (t.hi q));
}

-- a bit below the width of its place may be treated as open: widths and bounds stay proper
pub opened_legal : {σ : Shape} {t : Span} (p : Place) (b : ℕ) → Legal σ t → b < σ.width p → Legal σ (opened t p b)
unfolding opened
opened_legal {σ} {t} p b h l = record {
  fitting = h.fitting;
  width = h.width;
  bounded = placed_all (λ q x y. Uses σ q → Bounded (σ.width q) x y) p (λ u. at_p (h.bounded p u)) h.bounded;
}
  where
    at_p : Bounded (σ.width p) (t.lo p) (t.hi p) → Bounded (σ.width p) (cleared (t.lo p) b) (filled (t.hi p) b)
    at_p k = record {
      under = ⊑_trans (cleared_⊑ _ b) (⊑_trans k.under (⊑_filled _ b));
      below = filled_lt (t.hi p) b (σ.width p) l k.below;
    }
