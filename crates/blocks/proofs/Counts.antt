-- How many blocks n records take, k to a block, and how many of them each block holds.
use Rattle.std.proofs.Common.{◌≡◌, ℕ, zero, suc, ◌+◌, ◌-◌, ◌*◌, ◌/◌, ◌%◌, ◌<◌, ◌≤◌}
use Rattle.std.proofs.Common.{min, sym, ap, ◌∙◌, mod-eq_of_lt, suc-mul, mul_comm, mul-zero, le-div_iff_mul-le, mul-suc, arith}
use native.Mathlib.Nat.{mul-add-mod_self_left}
use native.Mathlib.Decide.{dec_lt}
use Rattle.lists.specs.Lists.{total}
use Rattle.blocks.specs.Written.{held, blocks_for}
use Rattle.lists.proofs.Pieces.{total_none, total_more}

module _ (k : ℕ) (some : 0 < k) where
  -- there is a block q just where the blocks before it do not hold all
  pub block_needed : (n q : ℕ) → q < blocks_for k n → k * q < n
  unfolding blocks_for
  block_needed n q h =
      let e = (le-div_iff_mul-le {k = k} {x = suc q} {y = n + (k - 1)} some).0 h in
      omega (arith, e, suc-mul q k, mul_comm q k)

  pub block_there : (n q : ℕ) → k * q < n → q < blocks_for k n
  unfolding blocks_for
  block_there n q h =
      (le-div_iff_mul-le {k = k} {x = suc q} {y = n + (k - 1)} some).1 (omega (arith, suc-mul q k, mul_comm q k))

  pub blocks_hold_all : (n : ℕ) → n ≤ k * blocks_for k n
  blocks_hold_all n = go (dec_lt (k * blocks_for k n) n)
    where
      go : Dec (k * blocks_for k n < n) → n ≤ k * blocks_for k n
      go (yes h) = let z = block_there n (blocks_for k n) h in absurd (omega arith)
      go (no h) = omega arith

  pub blocks_rise : (n m : ℕ) → n ≤ m → blocks_for k n ≤ blocks_for k m
  blocks_rise n m h = go (dec_lt (blocks_for k m) (blocks_for k n))
    where
      go : Dec (blocks_for k m < blocks_for k n) → blocks_for k n ≤ blocks_for k m
      go (yes g) = absurd (omega (arith, block_needed n (blocks_for k m) g, blocks_hold_all m))
      go (no g) = omega arith

  -- q full blocks and one with c records
  pub blocks_exact : (n q c : ℕ) → n ≡ k * q + c → 0 < c → c ≤ k → blocks_for k n ≡ suc q
  blocks_exact n q c e lo hi = go (dec_lt (suc q) (blocks_for k n))
    where
      go : Dec (suc q < blocks_for k n) → blocks_for k n ≡ suc q
      go (yes h) = absurd (omega (arith, block_needed n (suc q) h, mul-suc k q))
      go (no h) = omega (arith, block_there n q (omega arith))

  pub blocks_nothing : blocks_for k 0 ≡ 0
  blocks_nothing = go (dec_lt 0 (blocks_for k 0))
    where
      go : Dec (0 < blocks_for k 0) → blocks_for k 0 ≡ 0
      go (yes h) = absurd (omega (arith, block_needed 0 0 h))
      go (no h) = omega arith

  -- each block but the last is full
  pub held_full : (n i : ℕ) → suc i < blocks_for k n → held k n i ≡ k
  held_full n i h = omega (arith, block_needed n (suc i) h, mul-suc k i)

  pub held_some : (n i : ℕ) → i < blocks_for k n → 0 < held k n i
  held_some n i h = omega (arith, block_needed n i h)

  pub held_total : (n : ℕ) → total (blocks_for k n) (held k n) ≡ n
  held_total n = up_to (blocks_for k n) ∙ (omega (arith, blocks_hold_all n))
    where
      up_to : (q : ℕ) → total q (held k n) ≡ min n (k * q)
      up_to zero = rw (total_none (held k n), mul-zero k) (omega arith)
      up_to (suc q) = let e = up_to q in rw (total_more q (held k n), e, mul-suc k q) (omega arith)

  -- c records, no more than a full block's, make a multiple of k only where the block is full
  pub full_last : (q c : ℕ) → 0 < c → c ≤ k → (k * q + c) % k ≡ 0 → c ≡ k
  full_last q c lo hi e = go (dec_lt c k)
    where
      go : Dec (c < k) → c ≡ k
      go (yes h) = absurd (omega (arith, sym (mul-add-mod_self_left k q c ∙ mod-eq_of_lt h) ∙ e))
      go (no h) = omega arith

  -- record j stands in block j / k as its record j % k
  pub quotient : (q j : ℕ) → j < k → (k * q + j) / k ≡ q
  quotient q j h = native.Mathlib.Nat.mul-add-div some q j ∙ ap (λ x. q + x) (native.Mathlib.Nat.div-eq_of_lt h) ∙ native.Mathlib.Nat.add-zero q

  pub remainder : (q j : ℕ) → j < k → (k * q + j) % k ≡ j
  remainder q j h = mul-add-mod_self_left k q j ∙ mod-eq_of_lt h
