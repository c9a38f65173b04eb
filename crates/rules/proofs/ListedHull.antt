-- The hull of the fits of a rule, from the list of them: the bits that all have, and the bits that any has.
use mathlib.Core.Path.{◌≡◌, refl, ap}
use mathlib.Core.List.{List, [], ◌∷◌}
use Prim.Native.Nat.{ℕ, zero, suc, ◌^◌, ◌<◌}
use native.Mathlib.Omega.{arith}
use lib.Bits.{bit_and, bit_or}
use Rattle.words.specs.Bits.{bit, ◌⊑◌}
use Rattle.words.proofs.Order.{⊑_refl, bit_lt}
use Rattle.words.proofs.Ops.{bit_and_lem, bit_or_lem}
use Rattle.rules.specs.Kinds.{Place}
use Rattle.rules.specs.Meaning.{Shape}
use Rattle.rules.specs.Fits.{Span, Uses, Fit, Hull}
use Rattle.lists.specs.Every.{Any, here, there, All}
use Rattle.lists.proofs.Every.{any_imp, any_all}
use Rattle.rules.proofs.Listing.{fits, fits_sound, fits_complete}

-- what all values at a place have, and what any of them has
abbrev pub meet : Place → (Place → ℕ) → List (Place → ℕ) → ℕ
meet p f [] = f p
meet p f (g ∷ l) = bit_and (f p) (meet p g l)

abbrev pub join : Place → (Place → ℕ) → List (Place → ℕ) → ℕ
join p f [] = f p
join p f (g ∷ l) = bit_or (f p) (join p g l)

meet_le : (p : Place) (f : Place → ℕ) (l : List (Place → ℕ)) {x : ℕ} → Any (λ g. x ≡ g p) (f ∷ l) → meet p f l ⊑ x
meet_le p f [] (here e) = rw e (⊑_refl (f p))
meet_le p f [] (there a) = elim a [ ]
meet_le p f (g ∷ l) (here e) = record { bits = λ j. omega (arith, bit_and_lem j (f p) (meet p g l), ap (λ (n : ℕ). bit n j) e) }
meet_le p f (g ∷ l) (there a) = record { bits = λ j. omega (arith, bit_and_lem j (f p) (meet p g l), (meet_le p g l a).bits j) }

join_ge : (p : Place) (f : Place → ℕ) (l : List (Place → ℕ)) {x : ℕ} → Any (λ g. x ≡ g p) (f ∷ l) → x ⊑ join p f l
join_ge p f [] (here e) = rw e (⊑_refl (f p))
join_ge p f [] (there a) = elim a [ ]
join_ge p f (g ∷ l) (here e) = record { bits = λ j. omega (arith, bit_or_lem j (f p) (join p g l), ap (λ (n : ℕ). bit n j) e) }
join_ge p f (g ∷ l) (there a) = record { bits = λ j. omega (arith, bit_or_lem j (f p) (join p g l), (join_ge p g l a).bits j) }

meet_off : (p : Place) (j : ℕ) (f : Place → ℕ) (l : List (Place → ℕ)) → bit (meet p f l) j ≡ 0 → Any (λ g. bit (g p) j ≡ 0) (f ∷ l)
meet_off p j f [] e = here e
meet_off p j f (g ∷ l) e = go (bit (f p) j) refl (meet_off p j g l)
  where
    go : (x : ℕ) → bit (f p) j ≡ x → (bit (meet p g l) j ≡ 0 → Any (λ g. bit (g p) j ≡ 0) (g ∷ l)) → Any (λ g. bit (g p) j ≡ 0) (f ∷ g ∷ l)
    go zero q ih = here q
    go (suc x) q ih = there (ih (omega (arith, bit_and_lem j (f p) (meet p g l))))

join_on : (p : Place) (j : ℕ) (f : Place → ℕ) (l : List (Place → ℕ)) → bit (join p f l) j ≡ 1 → Any (λ g. bit (g p) j ≡ 1) (f ∷ l)
join_on p j f [] e = here e
join_on p j f (g ∷ l) e = go (bit (f p) j) refl (join_on p j g l)
  where
    go : (x : ℕ) → bit (f p) j ≡ x → (bit (join p g l) j ≡ 1 → Any (λ g. bit (g p) j ≡ 1) (g ∷ l)) → Any (λ g. bit (g p) j ≡ 1) (f ∷ g ∷ l)
    go zero q ih = there (ih (omega (arith, bit_or_lem j (f p) (join p g l))))
    go (suc x) q ih = here {x = f} (omega (arith, bit_lt (f p) j))

-- the hull of a rule's fits, the first of which is f
pub fits_hull : (σ : Shape) (t : Span) → ((p : Place) → Uses σ p → t.hi p < 2 ^ σ.width p) → (f : Place → ℕ) (l : List (Place → ℕ)) → fits σ t ≡ f ∷ l
    → (p : Place) → Uses σ p → Hull σ t p (meet p f l) (join p f l)
fits_hull σ t widths f l e p u = record {
  from = λ g h. meet_le p f l (listed g h);
  to = λ g h. join_ge p f l (listed g h);
  off = λ j z. let (g, o, h) = any_all {Q = Fit σ t} (meet_off p j f l z) sound in (g, h, o);
  on = λ j z. let (g, o, h) = any_all {Q = Fit σ t} (join_on p j f l z) sound in (g, h, o);
}
  where
    sound : All (Fit σ t) (f ∷ l)
    sound = rw e at (fits_sound σ t)

    listed : (g : Place → ℕ) → Fit σ t g → Any (λ x. g p ≡ x p) (f ∷ l)
    listed g h = any_imp (λ x k. k p u) (rw e at (fits_complete σ t widths g h))
