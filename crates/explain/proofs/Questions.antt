-- Whether a question asks for an open bit: what the code finds at the place it names.
use mathlib.Core.Path.{◌≡◌, refl, sym, ap, ◌∙◌, subst}
use mathlib.Core.Logic.{◌≢◌}
use mathlib.Core.Bool.{Bool, true, false}
use Prim.Native.Nat.{ℕ, ◌≤◌, ◌<◌}
use native.Mathlib.Omega.{arith}
use lib.Dec.{T, eqb}
use borrow.Author.Tests.{eqb-true, eqb-false}
use Rattle.words.specs.Bits.{bit}
use Rattle.words.proofs.Order.{bit_lt}
use Rattle.rules.specs.Kinds.{Place, Kind}
use Rattle.rules.specs.Rows.{uses}
use Rattle.rules.specs.Meaning.{Shape}
use Rattle.rules.specs.Fits.{Span, Uses}
use Rattle.problem.specs.declared.kinds.Place as kinds
use Rattle.problem.specs.Named.{place_named, place_number}
use Rattle.lists.specs.Tests.{Decides, holds, fails}
use Rattle.explain.specs.Asking.{OpenBit}
use Rattle.explain.proofs.PlaceNumbers.{named, to_last}

-- whether a place is used
pub place_used : (κ : Kind) (p : Place) {r : Bool} → r ≡ uses κ p → r ≡ true → T (uses κ p)
place_used κ p e t = subst T (sym t ∙ e) tt

module _ (σ : Shape) (t : Span) (p : kinds.Place) (j : ℕ) where
  abbrev Asked : Type 0
  Asked = OpenBit σ t (place_number p) j

  pub not_used : uses σ.kind (place_named p) ≡ false → Decides Asked false
  not_used e = fails (λ o. subst T (ap (uses σ.kind) (named p) ∙ e) o.used)

  pub not_below : σ.width (place_named p) ≤ j → Decides Asked false
  not_below l = fails (λ o. let b = rw (named p) at o.below in omega arith)

  pub not_open : {l : ℕ} → l ≡ bit (t.lo (place_named p)) j → l ≡ 1 → Decides Asked false
  not_open el e = fails (λ o. let f = rw (named p) at o.off in omega arith)

  -- all but the high bound was looked at
  pub top_decides : Uses σ (place_named p) → j < σ.width (place_named p) → {l h : ℕ} → l ≡ bit (t.lo (place_named p)) j → l ≢ 1
      → h ≡ bit (t.hi (place_named p)) j → Decides Asked (eqb h 1)
  top_decides u w {l} {h} el d eh = go (eqb h 1) refl
    where
      go : (c : Bool) → eqb h 1 ≡ c → Decides Asked c
      go true e = holds (record {
        place = to_last p;
        used = rw (named p) u;
        below = rw (named p) w;
        off = rw (named p) (omega (arith, bit_lt (t.lo (place_named p)) j));
        on = rw (named p) (sym eh ∙ eqb-true h 1 e);
      })
      go false e = fails (λ o. eqb-false h 1 e (eh ∙ (rw (named p) at o.on)))
