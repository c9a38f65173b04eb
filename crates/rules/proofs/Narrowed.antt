-- A table with new bounds for one word, inside those that it had: it lies inside the table, and it has fewer open bits unless the bounds are the same.
use mathlib.Core.Path.{◌≡◌, sym, ap, ◌∙◌}
use mathlib.Core.Logic.{◌⊎◌, inl, inr}
use Prim.Native.Nat.{ℕ, ◌<◌}
use native.Mathlib.Omega.{arith}
use native.Mathlib.Decide.{ℕ_discrete}
use lib.ListN.{length, set, length-set}
use lib.Seq.{get_or-set_same}
use Rattle.words.specs.Bits.{bit, ◌⊑◌}
use Rattle.words.specs.Table.{Table, Inside, Open}
use Rattle.lists.specs.Lists.{at}
use Rattle.words.specs.Count.{open_below}
use Rattle.words.proofs.Order.{⊑_refl, bit_lt}
use Rattle.lists.proofs.Sets.{set_all, set_both}
use Rattle.words.proofs.Tables.{in_reach}
use Rattle.words.proofs.Falls.{open_falls}
use Rattle.words.proofs.Between.{open_between}

-- new bounds for word i
unfoldable pub narrowed : Table → ℕ → ℕ → ℕ → Table
narrowed t i l h = record { lo = set t.lo i l; hi = set t.hi i h }

module _ {t : Table} (i l h : ℕ) (ok : Inside t t) (a : at t.lo i ⊑ l) (b : l ⊑ h) (c : h ⊑ at t.hi i) where
  pub narrowed_inside : Inside (narrowed t i l h) t
  unfolding narrowed
  narrowed_inside = record {
    los = length-set t.lo i l;
    his = length-set t.hi i h ∙ ok.his;
    low = set_all (λ k x. at t.lo k ⊑ x) t.lo i l a (λ k. ⊑_refl _);
    mid = set_both ◌⊑◌ t.lo t.hi i l h (sym ok.his) b ok.mid;
    top = set_all (λ k x. x ⊑ at t.hi k) t.hi i h c (λ k. ⊑_refl _);
  }

  -- a bit that is open in t and fixed by the new bounds
  falls_at : (j : ℕ) → Open t i j → (bit l j ≡ 1) ⊎ (bit h j ≡ 0) → open_below (length t.lo) (narrowed t i l h) < open_below (length t.lo) t
  unfolding narrowed
  falls_at j o x = open_falls ok narrowed_inside i j o (fixed x) (length t.lo) reach
    where
      reach : i < length t.lo
      reach = omega (arith, in_reach t.hi i j o.on, ok.his)

      fixed : (bit l j ≡ 1) ⊎ (bit h j ≡ 0) → (bit (at (narrowed t i l h).lo i) j ≡ 1) ⊎ (bit (at (narrowed t i l h).hi i) j ≡ 0)
      fixed (inl e) = inl (ap (λ (x : ℕ). bit x j) (get_or-set_same t.lo i l 0 reach) ∙ e)
      fixed (inr e) = inr (ap (λ (x : ℕ). bit x j) (get_or-set_same t.hi i h 0 (omega (arith, reach, ok.his))) ∙ e)

  pub narrowed_falls : ¬ ((l ≡ at t.lo i) × (h ≡ at t.hi i)) → open_below (length t.lo) (narrowed t i l h) < open_below (length t.lo) t
  narrowed_falls n = go (ℕ_discrete l (at t.lo i)) (ℕ_discrete h (at t.hi i))
    where
      go : Dec (l ≡ at t.lo i) → Dec (h ≡ at t.hi i) → open_below (length t.lo) (narrowed t i l h) < open_below (length t.lo) t
      go (yes e) (yes f) = absurd (n (e, f))
      go (yes e) (no d) =
          let (j, off, on) = open_between c d in
          falls_at j (record { off = omega (arith, a.bits j, b.bits j); on = on }) (inr off)
      go (no d) y =
          let (j, off, on) = open_between a (λ e. d (sym e)) in
          falls_at j (record { off = off; on = omega (arith, b.bits j, c.bits j, bit_lt (at t.hi i) j) }) (inl on)
