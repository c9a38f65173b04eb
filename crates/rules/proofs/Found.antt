-- What a step of tightening has found is so: the table is tight, or a narrower one with fewer open bits holds all that is tight, or there is a conflict.
use mathlib.Core.Path.{◌≡◌, refl}
use mathlib.Core.Bool.{Bool, true, false, not, ◌&&◌, ◌||◌}
use mathlib.Core.List.{List, [], ◌∷◌}
use Prim.Native.Nat.{ℕ, ◌^◌, ◌<◌}
use lib.Dec.{eqb}
use lib.ListN.{length}
use borrow.Author.Tests.{eqb-true, eqb-false}
use Rattle.words.specs.Table.{Table}
use Rattle.lists.specs.Lists.{at}
use Rattle.words.specs.Count.{open_below}
use Rattle.words.proofs.Order.{⊑_trans}
use Rattle.rules.specs.Kinds.{Place, R, A, B, S, kind_of}
use Rattle.rules.specs.Rows.{uses}
use Rattle.rules.specs.Fits.{Uses, Fit, Hull}
use Rattle.rules.specs.Tight.{Rule, word, shape, span, TightAt}
use Rattle.rules.specs.Proper.{Proper}
use Rattle.rules.specs.Tightening.{Conflict}
use Rattle.rules.proofs.Hulls.{hull_from, hull_to}
use Rattle.rules.proofs.Tight.{hull_tight}
use Rattle.lists.specs.Every.{All}
use Rattle.lists.proofs.Every.{any_none}
use Rattle.rules.proofs.Listing.{fits, fits_sound, fits_complete}
use Rattle.rules.proofs.ListedHull.{meet, join, fits_hull}
use Rattle.rules.proofs.Propers.{proper_inside}
use Rattle.rules.proofs.Narrowed.{narrowed, narrowed_falls}
use Rattle.rules.proofs.Held.{Held, no_fit, narrow_hull}
use Rattle.rules.proofs.Steps.{Step, still, narrower, stuck, or_else, narrow_unless, same_at, place_step, rule_step, step}

-- what a step has found of table t, where Q is so if nothing is to be narrowed
pub data Found (P : Table → Type 0) (t : Table) (Q : Type 0) : Step → Type 0 where
  found_still : Q → Found P t Q still
  found_narrower : {u : Table} → Held P t u → open_below (length t.lo) u < open_below (length t.lo) t → Found P t Q (narrower u)
  found_stuck : Conflict P t → Found P t Q stuck

module _ {P : Table → Type 0} {t : Table} {Q Q' : Type 0} where
  found_imp : {x : Step} → (Q → Q') → Found P t Q x → Found P t Q' x
  found_imp h (found_still q) = found_still (h q)
  found_imp h (found_narrower k l) = found_narrower k l
  found_imp h (found_stuck c) = found_stuck c

  found_else : {x : Step} (k : Unit {0} → Step) → Found P t Q x → (Q → Found P t Q' (k tt)) → Found P t Q' (or_else x k)
  unfolding or_else
  found_else k (found_still q) h = h q
  found_else k (found_narrower x l) h = found_narrower x l
  found_else k (found_stuck c) h = found_stuck c

module _ {P : Table → Type 0} {w : List ℕ} {t : Table} {ρ : Rule} (ok : Proper w t) (told : (s : Table) → P s → TightAt w s ρ) where
  widths : (p : Place) → Uses (shape w ρ) p → at t.hi (word ρ p) < 2 ^ at w (word ρ p)
  widths p u = (ok.bounded (word ρ p)).below

  -- the bounds of the word at a place in use are the hull there
  abbrev Same : (Place → ℕ) → List (Place → ℕ) → Place → Type 0
  Same f l p = Uses (shape w ρ) p → (meet p f l ≡ at t.lo (word ρ p)) × (join p f l ≡ at t.hi (word ρ p))

  module _ (f : Place → ℕ) (l : List (Place → ℕ)) (e : fits (shape w ρ) (span t ρ) ≡ f ∷ l) where
    fit : Fit (shape w ρ) (span t ρ) f
    fit = (rw e at (fits_sound (shape w ρ) (span t ρ))).0

    hull : (p : Place) → Uses (shape w ρ) p → Hull (shape w ρ) (span t ρ) p (meet p f l) (join p f l)
    hull = fits_hull (shape w ρ) (span t ρ) widths f l e

    place_found : (p : Place) → Found P t (Same f l p) (place_step t ρ f l p)
    unfolding place_step same_at
    place_found p = go (uses (kind_of ρ.kind) p) (eqb (meet p f l) (at t.lo (word ρ p))) (eqb (join p f l) (at t.hi (word ρ p))) refl refl refl
      where
        changed : Uses (shape w ρ) p → ¬ ((meet p f l ≡ at t.lo (word ρ p)) × (join p f l ≡ at t.hi (word ρ p)))
            → Found P t (Same f l p) (narrower (narrowed t (word ρ p) (meet p f l) (join p f l)))
        changed u n =
            let x = hull p u in
            found_narrower (narrow_hull told u (proper_inside ok) fit x)
            (narrowed_falls (word ρ p) _ _ (proper_inside ok) (hull_from x u) (⊑_trans (x.from f fit) (x.to f fit)) (hull_to x u) n)

        go : (b x y : Bool) → uses (kind_of ρ.kind) p ≡ b → eqb (meet p f l) (at t.lo (word ρ p)) ≡ x → eqb (join p f l) (at t.hi (word ρ p)) ≡ y
            → Found P t (Same f l p) (narrow_unless (not b || (x && y)) (narrowed t (word ρ p) (meet p f l) (join p f l)))
        go false x y eb ex ey = found_still (λ u. absurd (rw eb at u))
        go true true true eb ex ey = found_still (λ u. (eqb-true _ _ ex, eqb-true _ _ ey))
        go true true false eb ex ey = changed (rw eb tt) (λ q. eqb-false _ _ ey q.1)
        go true false y eb ex ey = changed (rw eb tt) (λ q. eqb-false _ _ ex q.0)

    same_tight : ((p : Place) → Same f l p) → TightAt w t ρ
    same_tight same = hull_tight fit (λ p u. rw (← (same p u).0, ← (same p u).1) (hull p u))

  rule_found : Found P t (TightAt w t ρ) (rule_step t ρ (fits (shape w ρ) (span t ρ)))
  unfolding rule_step
  rule_found = go (fits (shape w ρ) (span t ρ)) refl
    where
      go : (fs : List (Place → ℕ)) → fits (shape w ρ) (span t ρ) ≡ fs → Found P t (TightAt w t ρ) (rule_step t ρ fs)
      go [] e = found_stuck (no_fit told (λ f h. any_none (rw e at (fits_complete (shape w ρ) (span t ρ) widths f h))))
      go (f ∷ l) e =
          found_else _ (place_found f l e R) λ r. found_else _ (place_found f l e A) λ a. found_else _ (place_found f l e B) λ b.
          found_imp (λ s. same_tight f l e (λ p. elim p as (λ q. Same f l q) [ R ↦ r | A ↦ a | B ↦ b | S ↦ s ])) (place_found f l e S)

pub step_found : {P : Table → Type 0} {w : List ℕ} {t : Table} → Proper w t → (rs : List Rule) → All (λ ρ. (s : Table) → P s → TightAt w s ρ) rs
    → Found P t (All (TightAt w t) rs) (step w rs t)
unfolding step
step_found ok [] told = found_still tt
step_found ok (ρ ∷ rs) told = found_else _ (rule_found ok told.0) λ x. found_imp (λ y. (x, y)) (step_found ok rs told.1)
