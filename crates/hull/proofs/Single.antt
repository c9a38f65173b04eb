-- The promise of a narrowing allows one result only.
use Rattle.std.proofs.Common.{◌≡◌, ℕ, Bool, true, false, Option, Some, None, sym, refl, ap, ◌∙◌}
use Rattle.rules.specs.Kinds.{Place, R, A, B, S}
use Rattle.rules.specs.Rows.{uses}
use Rattle.rules.specs.Meaning.{Shape}
use Rattle.rules.specs.Fits.{Span, Uses}
use Rattle.rules.proofs.Hulls.{one_hull}
use Rattle.problem.specs.Places.{Bounds, lo_of, hi_of}
use Rattle.hull.specs.Narrowing.{Leaves, Narrows}

-- bounds are equal if they are at each place
bounds_path : (s t : Bounds) → ((p : Place) → (lo_of s p ≡ lo_of t p) × (hi_of s p ≡ hi_of t p)) → s ≡ t
bounds_path s t h = λ i. record {
  r = record { lo = (h R).0 i; hi = (h R).1 i };
  a = record { lo = (h A).0 i; hi = (h A).1 i };
  b = record { lo = (h B).0 i; hi = (h B).1 i };
  s = record { lo = (h S).0 i; hi = (h S).1 i };
}

-- bounds that both left as they were
both : {l h l' h' m n : ℕ} → (l ≡ m) × (h ≡ n) → (l' ≡ m) × (h' ≡ n) → (l ≡ l') × (h ≡ h')
both (a, b) (c, d) = (a ∙ sym c, b ∙ sym d)

module _ (σ : Shape) (t : Span) where
  same_place : {u u' : Bounds} → Leaves σ t u → Leaves σ t u' → (p : Place) (b : Bool) → uses σ.kind p ≡ b → (lo_of u p ≡ lo_of u' p) × (hi_of u p ≡ hi_of u' p)
  same_place x y p true d = let used : Uses σ p = rw d tt in one_hull (x.hull p used) (y.hull p used)
  same_place x y p false d = let unused : ¬ Uses σ p = λ v. rw d at v in both (x.rest p unused) (y.rest p unused)

  -- a fit is found by both, or by neither
  pub one_narrowing : (o o' : Option Bounds) → Narrows σ t o → Narrows σ t o' → o ≡ o'
  one_narrowing None None x y = refl
  one_narrowing None (Some u') x y = absurd (x y.some.0 y.some.1)
  one_narrowing (Some u) None x y = absurd (y x.some.0 x.some.1)
  one_narrowing (Some u) (Some u') x y = ap Some (bounds_path u u' (λ p. same_place x y p (uses σ.kind p) refl))
