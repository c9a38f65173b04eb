-- Each entry of the trail stands for at least one bit that was fixed, so entries and open bits together never become more.
use mathlib.Core.Path.{◌≡◌, sym}
use mathlib.Core.Logic.{◌≢◌}
use mathlib.Core.List.{List}
use Prim.Native.Nat.{ℕ, zero, suc, ◌+◌, ◌/◌, ◌%◌, ◌≤◌, ◌<◌}
use native.Mathlib.Omega.{arith}
use native.Mathlib.Decide.{ℕ_discrete, dec_lt}
use lib.Count.{ones, ones_step}
use Rattle.words.specs.Bits.{◌⊑◌}
use Rattle.words.specs.Table.{Table, Inside}
use Rattle.lists.specs.Lists.{at}
use Rattle.words.specs.Count.{open_below}
use Rattle.words.proofs.Order.{⊑_half, ⊑_low, ⊑_trans}
use Rattle.words.proofs.Falls.{open_ones, ones_mono}
use Rattle.trail.specs.Trail.{apart, changes}
use Rattle.trail.proofs.Keeping.{apart_same, apart_other}

-- of two numbers in the order by bits, with as many ones, one is the other
ones_same : (f x y : ℕ) → x + y ≤ f → x ⊑ y → ones y ≤ ones x → x ≡ y
ones_same zero x y l h e = omega arith
ones_same (suc f) x y l h e =
    let low : x % 2 ≤ y % 2 = ⊑_low h in
    let more = ones_mono (x / 2) (y / 2) (⊑_half h) in
    let half : x / 2 ≡ y / 2 = ones_same f (x / 2) (y / 2) (omega arith) (⊑_half h) (omega (arith, ones_step x, ones_step y)) in
    omega (arith, ones_step x, ones_step y)

ones_apart : (x y : ℕ) → x ⊑ y → (apart x y + ones x ≤ ones y) × (apart y x + ones x ≤ ones y)
ones_apart x y h = go (ℕ_discrete x y)
  where
    strict : x ≢ y → Dec (ones x < ones y) → (apart x y + ones x ≤ ones y) × (apart y x + ones x ≤ ones y)
    strict d (yes l) = (omega (arith, apart_other x y d), omega (arith, apart_other y x (λ e. d (sym e))))
    strict d (no l) = absurd (d (ones_same (x + y) x y (omega arith) h (omega arith)))

    go : Dec (x ≡ y) → (apart x y + ones x ≤ ones y) × (apart y x + ones x ≤ ones y)
    go (yes e) = let m = ones_mono x y h in (omega (arith, apart_same x y e), omega (arith, apart_same y x (sym e)))
    go (no d) = strict d (dec_lt (ones x) (ones y))

-- t stands in memory as the table, c as the copy, and t lies inside c
module _ (l : List ℕ) (t c : Table) (p : Inside t c) where
  pub room_left : (n : ℕ) → ((i : ℕ) → i < n → at t.lo i ≡ at l i) → ((i : ℕ) → i < n → at t.hi i ≡ at l (i + 32))
      → ((i : ℕ) → i < n → at c.lo i ≡ at l (316 + i)) → ((i : ℕ) → i < n → at c.hi i ≡ at l (316 + (i + 32)))
      → changes n l + open_below n t ≤ open_below n c
  unfolding changes open_below
  room_left zero tl th cl ch = omega arith
  room_left (suc n) tl th cl ch =
      let less : n < suc n = omega arith in
      rw (← tl n less, ← th n less, ← cl n less, ← ch n less)
      (omega (
        arith,
        room_left n (λ i h. tl i (omega arith)) (λ i h. th i (omega arith)) (λ i h. cl i (omega arith)) (λ i h. ch i (omega arith)),
        open_ones _ _ (p.mid n),
        open_ones _ _ (⊑_trans (p.low n) (⊑_trans (p.mid n) (p.top n))),
        (ones_apart _ _ (p.low n)).1,
        (ones_apart _ _ (p.top n)).0,
      ))
