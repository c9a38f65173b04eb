-- To be believed: rules over the words of a table.
-- When a table is tight, and when all rules hold.
use Rattle.std.specs.Prelude.{◌≡◌, List, ℕ, ◌<◌, length, get_or}
use Rattle.words.specs.Bits.{bit}
use Rattle.words.specs.Table.{Table, Open}
use Rattle.lists.specs.Lists.{at}
use Rattle.rules.specs.Kinds.{Place, R, A, B, S, kind_of}
use Rattle.rules.specs.Meaning.{Shape, Holds}
use Rattle.rules.specs.Fits.{Span, Uses, Fit}

pub record Rule : Type 0 where
  pub kind : ℕ
  pub r : ℕ
  pub a : ℕ
  pub b : ℕ
  pub s : ℕ
  pub k : ℕ

-- the number of the word that stands at a place
abbrev pub word : Rule → Place → ℕ
word ρ R = ρ.r
word ρ A = ρ.a
word ρ B = ρ.b
word ρ S = ρ.s

-- a rule's shape at the widths w of the words
abbrev pub shape : List ℕ → Rule → Shape
shape w ρ = record { kind = kind_of ρ.kind; k = ρ.k; width = λ p. at w (word ρ p) }

-- the bounds of a rule's places in a table
abbrev pub span : Table → Rule → Span
span t ρ = record { lo = λ p. at t.lo (word ρ p); hi = λ p. at t.hi (word ρ p) }

-- a table is tight for a rule: the rule has a fit, and each open bit at each place is 0 in some fit and 1 in some fit
pub record TightAt (w : List ℕ) (t : Table) (ρ : Rule) : Type 0 where
  pub some : (f : Place → ℕ) × Fit (shape w ρ) (span t ρ) f
  pub off : (p : Place) (j : ℕ) → Uses (shape w ρ) p → Open t (word ρ p) j → (f : Place → ℕ) × Fit (shape w ρ) (span t ρ) f × (bit (f p) j ≡ 0)
  pub on : (p : Place) (j : ℕ) → Uses (shape w ρ) p → Open t (word ρ p) j → (f : Place → ℕ) × Fit (shape w ρ) (span t ρ) f × (bit (f p) j ≡ 1)

abbrev pub none_rule : Rule
none_rule = record { kind = 0; r = 0; a = 0; b = 0; s = 0; k = 0 }

abbrev pub rule : List Rule → ℕ → Rule
rule rs n = get_or rs n none_rule

-- a table is tight for all the rules
pub record Tight (w : List ℕ) (rs : List Rule) (t : Table) : Type 0 where
  pub each : (n : ℕ) → n < length rs → TightAt w t (rule rs n)

-- a rule holds for the values v of the words
abbrev pub HoldsAt : List ℕ → List ℕ → Rule → Type 0
HoldsAt w v ρ = Holds (kind_of ρ.kind) (λ p. at w (word ρ p)) ρ.k (λ p. at v (word ρ p))

-- all the rules hold for the values v of the words
pub record AllHold (w : List ℕ) (rs : List Rule) (v : List ℕ) : Type 0 where
  pub each : (n : ℕ) → n < length rs → HoldsAt w v (rule rs n)

-- every rule of rs is listed in rs'
pub record RulesIn (rs rs' : List Rule) : Type 0 where
  pub number : (n : ℕ) → n < length rs → ℕ
  pub reached : (n : ℕ) (l : n < length rs) → number n l < length rs'
  pub equal : (n : ℕ) (l : n < length rs) → rule rs' (number n l) ≡ rule rs n
