-- A refusal is known by its number and place, which are those of the demand that it refuses.
use mathlib.Core.Path.{◌≡◌, refl, sym, ◌∙◌}
use mathlib.Core.List.{[], ◌∷◌}
use Prim.Native.Nat.{ℕ, ◌-◌}
use Rattle.std.specs.Prelude.{get_or}
use Rattle.checker.specs.declared.refusal.Refusal.{Refusal}
use Rattle.checker.specs.declared.refusal.Refusal.TheVariants.{Size, Check, Layout, Width, Table, Kind, Field, Fit, Limit, Ask, Empty}
use Rattle.checker.specs.Demands.{Demand, SIZE, WIDTH, TABLE, KIND, FIELD, FIT, LIMIT, number, place}
use Rattle.checker.specs.Refusals.{number_of, place_of, refusal_of}

-- the refusal with a number and a place
named : ℕ → ℕ → Refusal
named n p = get_or (Size ∷ Check p ∷ Layout p ∷ Width p ∷ Table p ∷ Kind p ∷ Field p ∷ Fit p ∷ Limit ∷ Ask ∷ []) (n - 1) Empty

named_lem : (d : Demand) → named (number d) (place d) ≡ refusal_of d
unfolding named
named_lem SIZE = refl
named_lem (WIDTH i) = refl
named_lem (TABLE i) = refl
named_lem (KIND n) = refl
named_lem (FIELD n) = refl
named_lem (FIT n) = refl
named_lem LIMIT = refl

pub same_refusal : (d e : Demand) → number d ≡ number e → place d ≡ place e → refusal_of d ≡ refusal_of e
same_refusal d e n p = sym (named_lem d) ∙ rw (n, p) (named_lem e)

-- a demand's refusal has its number and its place
pub number_of_lem : (d : Demand) → number_of (refusal_of d) ≡ number d
number_of_lem SIZE = refl
number_of_lem (WIDTH i) = refl
number_of_lem (TABLE i) = refl
number_of_lem (KIND n) = refl
number_of_lem (FIELD n) = refl
number_of_lem (FIT n) = refl
number_of_lem LIMIT = refl

pub place_of_lem : (d : Demand) → place_of (refusal_of d) ≡ place d
place_of_lem SIZE = refl
place_of_lem (WIDTH i) = refl
place_of_lem (TABLE i) = refl
place_of_lem (KIND n) = refl
place_of_lem (FIELD n) = refl
place_of_lem (FIT n) = refl
place_of_lem LIMIT = refl

-- two refusals with one number and one place are one
pub once_named : (r s : Refusal) → number_of r ≡ number_of s → place_of r ≡ place_of s → r ≡ s
unfolding named
once_named r s n p = sym (go r) ∙ rw (n, p) (go s)
  where
    go : (x : Refusal) → named (number_of x) (place_of x) ≡ x
    go Size = refl
    go (Check i) = refl
    go (Layout i) = refl
    go (Width i) = refl
    go (Table i) = refl
    go (Kind i) = refl
    go (Field i) = refl
    go (Fit i) = refl
    go Limit = refl
    go Ask = refl
    go Empty = refl
