-- To be believed: what a rule says of one bit at one place: CONFLICT if it has no fit, FORCED with its value if all fits agree on the bit, else FREE.
use Rattle.std.specs.Prelude.{◌≡◌, ◌≢◌, ℕ}
use Rattle.words.specs.Bits.{bit}
use Rattle.rules.specs.Kinds.{Place}
use Rattle.rules.specs.Meaning.{Shape}
use Rattle.rules.specs.Fits.{Span, Fit}

pub data Answer : Type 0 where
  CONFLICT : Answer
  FORCED : ℕ → Answer
  FREE : Answer

-- the answer for bit j at place p
pub data Says (σ : Shape) (t : Span) (p : Place) (j : ℕ) : Answer → Type 0 where
  -- no fit
  says_conflict : ((f : Place → ℕ) → ¬ Fit σ t f) → Says σ t p j CONFLICT
  -- a fit, and in every fit the bit is b
  says_forced : {f : Place → ℕ} (b : ℕ) → Fit σ t f → ((g : Place → ℕ) → Fit σ t g → bit (g p) j ≡ b) → Says σ t p j (FORCED b)
  -- two fits that differ in the bit
  says_free : {f g : Place → ℕ} → Fit σ t f → Fit σ t g → bit (f p) j ≢ bit (g p) j → Says σ t p j FREE
