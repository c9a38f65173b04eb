-- The places of a rule by their numbers; and a bit of what stands at a place.
use mathlib.Core.Path.{◌≡◌, refl, ap, ◌∙◌}
use mathlib.Core.List.{[], ◌∷◌}
use Prim.Native.Nat.{ℕ, zero, suc, ◌≤◌, ◌<◌}
use native.Mathlib.Omega.{arith}
use lib.ListN.{get_or}
use Rattle.words.specs.Bits.{bit}
use Rattle.problem.specs.declared.kinds.Place.{Place}
use Rattle.problem.specs.declared.kinds.Place.TheVariants as place
use Rattle.problem.specs.Named.{place_named, place_number}
use Rattle.reason_theory.specs.Reason.{place_no}
use Rattle.explain.specs.Places.{last, place_of}

pub named : (p : Place) → place_of (place_number p) ≡ place_named p
unfolding place_of
named place.R = refl
named place.A = refl
named place.B = refl
named place.S = refl

pub to_last : (p : Place) → place_number p ≤ last
to_last place.R = omega arith
to_last place.A = omega arith
to_last place.B = omega arith
to_last place.S = omega arith

pub number_listed : (p : Place) → place_number p ≡ place_no (place_named p)
number_listed place.R = refl
number_listed place.A = refl
number_listed place.B = refl
number_listed place.S = refl

-- the places in order
pub nth_place : (n : ℕ) → n < 4 → place_of n ≡ place_named (get_or (place.R ∷ place.A ∷ place.B ∷ place.S ∷ []) n place.R)
unfolding place_of
nth_place zero l = refl
nth_place (suc zero) l = refl
nth_place (suc (suc zero)) l = refl
nth_place (suc (suc (suc zero))) l = refl
nth_place (suc (suc (suc (suc n)))) l = absurd (omega arith)

-- a bit x of the number m that was read, where n stands
pub bit_at : {m n x : ℕ} (b : ℕ) → m ≡ n → x ≡ bit m b → x ≡ bit n b
bit_at b e h = h ∙ ap (λ (k : ℕ). bit k b) e
