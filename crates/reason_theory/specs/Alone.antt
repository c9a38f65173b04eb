-- To be believed: bits alone: the bounds of a rule's places in which, of the bits gone through, only those listed stay fixed.
use Rattle.std.specs.Prelude.{Bool, false, cond, ◌||◌, List, [], ◌∷◌, ℕ, eqb}
use Rattle.rules.specs.Fits.{Span}
use Rattle.reason_theory.specs.Reason.{Spot, spot, entry, opened}

-- whether n is in a list
unfoldable pub listed : ℕ → List ℕ → Bool
listed n [] = false
listed n (m ∷ l) = eqb n m || listed n l

-- each of the bits ns whose entry is not listed is treated as open
unfoldable pub alone : Span → List Spot → List ℕ → Span
alone t [] out = t
alone t (spot q b ∷ ns) out = alone (cond (listed (entry q b) out) t (opened t q b)) ns out
