-- Proper tables: a proper table lies inside itself, a table inside a proper one is proper, and it has no more open bits than its words have bits.
use mathlib.Core.Path.{refl, sym, ◌∙◌}
use mathlib.Core.List.{List}
use Prim.Native.Nat.{ℕ, zero, suc, ◌+◌, ◌≤◌}
use native.Mathlib.Omega.{arith}
use Rattle.words.specs.Table.{Table, Inside}
use Rattle.lists.specs.Lists.{at}
use Rattle.words.specs.Count.{open_below}
use Rattle.words.proofs.Order.{⊑_refl, ⊑_le}
use Rattle.words.proofs.Between.{open_width}
use Rattle.rules.specs.Proper.{Proper}

pub proper_inside : {w : List ℕ} {t : Table} → Proper w t → Inside t t
proper_inside {w} {t} h = record {
  los = refl;
  his = h.his ∙ sym h.los;
  low = λ i. ⊑_refl (at t.lo i);
  mid = λ i. (h.bounded i).under;
  top = λ i. ⊑_refl (at t.hi i);
}

pub proper_narrower : {w : List ℕ} {u t : Table} → Proper w t → Inside u t → Proper w u
proper_narrower {w} {u} {t} h p = record {
  los = p.los ∙ h.los;
  his = p.his ∙ h.los;
  width = h.width;
  bounded = λ i. record { under = p.mid i; below = omega (arith, ⊑_le (at u.hi i) (at t.hi i) (p.top i), (h.bounded i).below) };
}

-- the number of bits of the first m words
unfoldable pub bits_below : ℕ → List ℕ → ℕ
bits_below zero w = 0
bits_below (suc m) w = bits_below m w + at w m

pub open_bits : {w : List ℕ} {t : Table} → Proper w t → (m : ℕ) → open_below m t ≤ bits_below m w
unfolding open_below bits_below
open_bits h zero = omega arith
open_bits h (suc m) = omega (arith, open_bits h m, open_width (h.bounded m))
