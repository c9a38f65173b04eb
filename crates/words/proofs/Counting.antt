-- The count of ones in lo xor hi is the number of open bits, counted one by one; and fewer words have no more of them.
use mathlib.Core.Path.{◌≡◌, refl, sym, ap, ◌∙◌}
use Prim.Native.Nat.{ℕ, zero, suc, ◌+◌, ◌/◌, ◌%◌, ◌^◌, ◌≤◌, ◌<◌}
use native.Mathlib.Nat.{pow-suc, le_refl}
use native.Mathlib.Omega.{arith}
use native.Mathlib.Decide.{ℕ_discrete}
use lib.Count.{ones, ones_step}
use Rattle.words.specs.Bits.{bit, ◌⊑◌}
use Rattle.words.specs.Word.{Bounded, open_in}
use Rattle.words.specs.Table.{Table}
use Rattle.words.specs.Count.{open_among, open_below}
use Rattle.words.proofs.Order.{bit_zero, bit_suc, ⊑_le}
use Rattle.words.proofs.Falls.{open_ones}

-- the ones among the lowest w bits
ones_among : ℕ → ℕ → ℕ
ones_among zero n = 0
ones_among (suc w) n = ones_among w n + bit n w

-- the lowest bit, and the rest
among_step : (w n : ℕ) → ones_among (suc w) n ≡ n % 2 + ones_among w (n / 2)
unfolding ones_among
among_step zero n = omega (arith, bit_zero n)
among_step (suc w) n = omega (arith, among_step w n, bit_suc n w)

among_all : (w n : ℕ) → n < 2 ^ w → ones_among w n ≡ ones n
unfolding ones_among ones
among_all zero zero l = refl
among_all zero (suc n) l = absurd (omega arith)
among_all (suc w) n l = among_step w n ∙ ap (λ (x : ℕ). n % 2 + x) (among_all w (n / 2) (omega (arith, pow-suc 2 w))) ∙ sym (ones_step n)

among_open : (w lo hi : ℕ) → lo ⊑ hi → open_among w lo hi + ones_among w lo ≡ ones_among w hi
unfolding open_among ones_among
among_open zero lo hi h = refl
among_open (suc w) lo hi h = omega (arith, among_open w lo hi h, h.bits w)

-- the open bits of a word: the count of ones in lo xor hi is that of the bits that are 0 in lo and 1 in hi
pub open_one_by_one : (w lo hi : ℕ) → Bounded w lo hi → open_in lo hi ≡ open_among w lo hi
open_one_by_one w lo hi h =
    omega (
      arith,
      open_ones lo hi h.under,
      among_open w lo hi h.under,
      among_all w hi h.below,
      among_all w lo (omega (arith, ⊑_le lo hi h.under, h.below)),
    )

-- fewer words have no more open bits
pub fewer_words : (t : Table) (m n : ℕ) → m ≤ n → open_below m t ≤ open_below n t
unfolding open_below
fewer_words t m zero l =
    let e : m ≡ 0 = omega arith in
    rw e (omega arith)
fewer_words t m (suc n) l = go (ℕ_discrete m (suc n)) (λ k. fewer_words t m n k)
  where
    go : Dec (m ≡ suc n) → (m ≤ n → open_below m t ≤ open_below n t) → open_below m t ≤ open_below (suc n) t
    go (yes e) ih = rw e (le_refl _)
    go (no d) ih = omega (arith, ih (omega arith))
