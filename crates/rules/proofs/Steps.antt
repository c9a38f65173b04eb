-- Tightening as a function of the definitions, by going through all fits of each rule.
-- A step goes through the rules in order, and through the places r, a, b, s of each. The first rule without a fit is a conflict; the first place in use whose
-- hull is not its word's bounds narrows that word; where there is neither, the table is tight. Each narrowing fixes an open bit, so one step more than the
-- words have bits is enough.
use mathlib.Core.Bool.{Bool, true, false, not, ◌&&◌, ◌||◌}
use mathlib.Core.List.{List, [], ◌∷◌}
use Prim.Native.Nat.{ℕ, zero, suc}
use lib.Dec.{eqb}
use lib.ListN.{length}
use Rattle.words.specs.Table.{Table}
use Rattle.lists.specs.Lists.{at}
use Rattle.rules.specs.Kinds.{Place, R, A, B, S, kind_of}
use Rattle.rules.specs.Rows.{uses}
use Rattle.rules.specs.Tight.{Rule, word, shape, span}
use Rattle.rules.specs.Tightening.{Tightened, TIGHT, CONFLICT}
use Rattle.rules.proofs.Listing.{fits}
use Rattle.rules.proofs.ListedHull.{meet, join}
use Rattle.rules.proofs.Narrowed.{narrowed}
use Rattle.rules.proofs.Propers.{bits_below}

-- what a step comes to: nothing to narrow, a narrower table, or a rule without a fit
pub data Step : Type 0 where
  still : Step
  narrower : Table → Step
  stuck : Step

unfoldable pub or_else : Step → (Unit {0} → Step) → Step
or_else still k = k tt
or_else (narrower u) k = narrower u
or_else stuck k = stuck

abbrev pub narrow_unless : Bool → Table → Step
narrow_unless true u = still
narrow_unless false u = narrower u

-- a place is not used, or the hull there is its word's bounds
unfoldable pub same_at : Table → Rule → (Place → ℕ) → List (Place → ℕ) → Place → Bool
same_at t ρ f l p = not (uses (kind_of ρ.kind) p) || (eqb (meet p f l) (at t.lo (word ρ p)) && eqb (join p f l) (at t.hi (word ρ p)))

unfoldable pub place_step : Table → Rule → (Place → ℕ) → List (Place → ℕ) → Place → Step
place_step t ρ f l p = narrow_unless (same_at t ρ f l p) (narrowed t (word ρ p) (meet p f l) (join p f l))

-- for a rule whose fits are listed
unfoldable pub rule_step : Table → Rule → List (Place → ℕ) → Step
rule_step t ρ [] = stuck
rule_step t ρ (f ∷ l) =
    or_else (place_step t ρ f l R) λ z. or_else (place_step t ρ f l A) λ z. or_else (place_step t ρ f l B) λ z. place_step t ρ f l S

unfoldable pub step : List ℕ → List Rule → Table → Step
step w [] t = still
step w (ρ ∷ rs) t = or_else (rule_step t ρ (fits (shape w ρ) (span t ρ))) λ z. step w rs t

abbrev pub on_step : Step → Table → (Table → Tightened) → Tightened
on_step still t k = TIGHT t
on_step (narrower u) t k = k u
on_step stuck t k = CONFLICT

-- step by step; there is no table for which the number of steps runs out
unfoldable pub loop : List ℕ → List Rule → ℕ → Table → Tightened
loop w rs zero t = CONFLICT
loop w rs (suc k) t = on_step (step w rs t) t λ u. loop w rs k u

unfoldable pub tightened : List ℕ → List Rule → Table → Tightened
unfolding loop step rule_step place_step same_at or_else narrowed fits kind_of bits_below
tightened w rs t = loop w rs (suc (bits_below (length w) w)) t
