-- To be believed: the reason for an answer: the fixed bits of a rule's places that remain when each is dropped in turn where the answer stays the same.
-- A dropped bit is treated as open at its place only, so all this is over a rule's own places; a table comes in by `shape w ρ` and `span t ρ`.
use Rattle.std.specs.Prelude.{◌≡◌, Bool, cond, ◌≢◌, List, [], ◌∷◌, ◌++◌, ℕ, zero, suc, ◌+◌, ◌*◌, ◌^◌, ◌<◌, ◌-◌, eqb}
use Rattle.words.specs.Bits.{bit}
use Rattle.rules.specs.Kinds.{Place, R, A, B, S}
use Rattle.rules.specs.Rows.{uses}
use Rattle.rules.specs.Meaning.{Shape}
use Rattle.rules.specs.Fits.{Span, Uses}
use Rattle.reason_theory.specs.Says.{Answer, FREE, Says}

-- places by their numbers: 0 r, 1 a, 2 b, 3 s
abbrev pub place_no : Place → ℕ
place_no R = 0
place_no A = 1
place_no B = 2
place_no S = 3

-- bit b of place p
pub data Spot : Type 0 where
  spot : Place → ℕ → Spot

-- how it is listed: 64 times place plus bit
abbrev pub entry : Place → ℕ → ℕ
entry p b = 64 * place_no p + b

-- n with bit b made 0, and made 1
unfoldable pub cleared : ℕ → ℕ → ℕ
cleared n b = n - bit n b * 2 ^ b

unfoldable pub filled : ℕ → ℕ → ℕ
filled n b = n + (1 - bit n b) * 2 ^ b

-- the numbers f of the places, but x at place p
unfoldable pub placed : Place → ℕ → (Place → ℕ) → Place → ℕ
placed p x f q = cond (eqb (place_no p) (place_no q)) x (f q)

-- bit b treated as open at place p
unfoldable pub opened : Span → Place → ℕ → Span
opened t p b = record { lo = placed p (cleared (t.lo p) b) t.lo; hi = placed p (filled (t.hi p) b) t.hi }

-- The bits listed are gone through in turn. Each is dropped where the answer stays x; else it is kept, as its entry.
pub data Reason (σ : Shape) (p : Place) (j : ℕ) (x : Answer) : Span → List Spot → List ℕ → Type 0 where
  all_seen : {t : Span} → Reason σ p j x t [] []
  dropped : {t : Span} {q : Place} {b : ℕ} {ns : List Spot} {out : List ℕ} → Says σ (opened t q b) p j x
      → Reason σ p j x (opened t q b) ns out → Reason σ p j x t (spot q b ∷ ns) out
  kept : {t : Span} {q : Place} {b : ℕ} {ns : List Spot} {out : List ℕ} → ¬ Says σ (opened t q b) p j x
      → Reason σ p j x t ns out → Reason σ p j x t (spot q b ∷ ns) (entry q b ∷ out)

-- bit b of place p is a fixed bit of the rule's places
pub record Fixed (σ : Shape) (t : Span) (p : Place) (b : ℕ) : Type 0 where
  pub used : Uses σ p
  pub below : b < σ.width p
  pub same : bit (t.lo p) b ≡ bit (t.hi p) b

-- the same two bits as a test
unfoldable pub fixed_bit : Span → Place → ℕ → Bool
fixed_bit t p b = eqb (bit (t.lo p) b) (bit (t.hi p) b)

-- the fixed bits of place p among n bits from bit b upwards
unfoldable pub fixed_from : Span → Place → ℕ → ℕ → List Spot
fixed_from t p b zero = []
fixed_from t p b (suc n) = cond (fixed_bit t p b) (spot p b ∷ []) [] ++ fixed_from t p (suc b) n

-- the fixed bits of place p, where the rule uses it
unfoldable pub fixed_at : Shape → Span → Place → List Spot
fixed_at σ t p = cond (uses σ.kind p) (fixed_from t p 0 (σ.width p)) []

-- every fixed bit of the rule's places, by place 0 to 3 and from bit 0 upwards
unfoldable pub fixed_of : Shape → Span → List Spot
fixed_of σ t = fixed_at σ t R ++ (fixed_at σ t A ++ (fixed_at σ t B ++ fixed_at σ t S))

-- an explanation: the answer, and for CONFLICT and FORCED the reason
pub data Explains (σ : Shape) (t : Span) (p : Place) (j : ℕ) : Answer → List ℕ → Type 0 where
  no_reason : Says σ t p j FREE → Explains σ t p j FREE []
  with_reason : {x : Answer} {out : List ℕ} → x ≢ FREE → Says σ t p j x → Reason σ p j x t (fixed_of σ t) out → Explains σ t p j x out
