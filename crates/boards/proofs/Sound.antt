-- Tests that a problem's table is proper and that a question is about a legal rule, for problems that are written out.
use mathlib.Core.Path.{refl, ap}
use mathlib.Core.Bool.{Bool, true, false, ◌&&◌}
use mathlib.Core.List.{List, [], ◌∷◌}
use Prim.Native.Nat.{ℕ, zero, suc, ◌<◌}
use native.Mathlib.Omega.{arith}
use lib.Dec.{T}
use lib.ListN.{length}
use Rattle.words.specs.Word.{Width, Bounded, bounded}
use Rattle.words.specs.Table.{Table}
use Rattle.lists.specs.Lists.{at}
use Rattle.words.proofs.Order.{⊑_refl}
use Rattle.words.proofs.Single.{bounded_sound}
use Rattle.rules.specs.Kinds.{kind_of}
use Rattle.rules.specs.Rows.{class}
use Rattle.rules.specs.Fits.{Legal}
use Rattle.rules.specs.Tight.{Rule, word, shape, span}
use Rattle.rules.specs.Proper.{Proper}
use Rattle.lists.proofs.Bools.{both}
use Rattle.rules.proofs.ProperRules.{rule_legal}
use Rattle.checker.specs.Tests.{is_width, is_kind, are_fields, fits_as}
use Rattle.checker.proofs.TestsMet.{width_met, kind_met, fields_met, fits_met}

abbrev pub properb : List ℕ → List ℕ → List ℕ → Bool
properb [] [] [] = true
properb [] [] (h ∷ hs) = false
properb [] (l ∷ ls) hs = false
properb (w ∷ ws) [] hs = false
properb (w ∷ ws) (l ∷ ls) [] = false
properb (w ∷ ws) (l ∷ ls) (h ∷ hs) = is_width w && (bounded w l h && properb ws ls hs)

pub proper_sound : (w lo hi : List ℕ) → T (properb w lo hi) → Proper w (record { lo = lo; hi = hi })
proper_sound [] [] [] t = record {
  los = refl;
  his = refl;
  width = λ i l. absurd (omega arith);
  bounded = λ i. record { under = ⊑_refl 0; below = omega arith };
}
proper_sound [] [] (h ∷ hs) t = absurd t
proper_sound [] (l ∷ ls) hs t = absurd t
proper_sound (w ∷ ws) [] hs t = absurd t
proper_sound (w ∷ ws) (l ∷ ls) [] t = absurd t
proper_sound (w ∷ ws) (l ∷ ls) (h ∷ hs) t =
    let (a, t₁) = both (is_width w) _ t in
    let (b, t₂) = both (bounded w l h) _ t₁ in
    let rest = proper_sound ws ls hs t₂ in
    record {
      los = ap suc rest.los;
      his = ap suc rest.his;
      width = λ i. elim i as (λ n. n < length (w ∷ ws) → Width (at (w ∷ ws) n)) [ zero ↦ λ k. width_met w a | suc n ↦ λ k. rest.width n (omega arith) ];
      bounded = λ i. elim i as (λ n. Bounded (at (w ∷ ws) n) (at (l ∷ ls) n) (at (h ∷ hs) n))
          [ zero ↦ bounded_sound w l h b | suc n ↦ rest.bounded n ];
    }

-- ---- a legal rule

unfoldable pub legalb : List ℕ → Rule → Bool
unfolding kind_of are_fields
legalb w ρ = is_kind ρ.kind && (are_fields (length w) ρ && fits_as (class (kind_of ρ.kind)) (λ p. at w (word ρ p)) ρ.k)

pub legal_sound : {w : List ℕ} {t : Table} (ρ : Rule) → Proper w t → T (legalb w ρ) → Legal (shape w ρ) (span t ρ)
unfolding legalb
legal_sound {w} ρ ok h =
    let (a, t₁) = both (is_kind ρ.kind) _ h in
    let (b, c) = both (are_fields (length w) ρ) _ t₁ in
    rule_legal ok (record { kind = kind_met ρ.kind a; fields = fields_met (length w) ρ b; fit = fits_met (class (kind_of ρ.kind)) _ ρ.k c })
