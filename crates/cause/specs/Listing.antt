-- Mirrors code: the list of rule numbers in work memory, from number 64 on: those not decided yet, then those kept.
use Rattle.std.specs.Prelude.{◌≡◌, List, ℕ, ◌+◌, ◌≤◌, ◌<◌, length}
use Rattle.lists.specs.Lists.{at, series}
use Rattle.problem.specs.Lent.{rule_count}

-- the k numbers that stand after n others
unfoldable pub kept_in : List ℕ → ℕ → ℕ → List ℕ
kept_in l n k = series k (λ j. at l (64 + n + j))

-- the numbers 0 to n - 1 stand in memory l, then k numbers of rules
pub record Standing (bs l : List ℕ) (n k : ℕ) : Type 0 where
  pub numbers : (j : ℕ) → j < n → at l (64 + j) ≡ j
  pub kept : (j : ℕ) → j < k → at l (64 + n + j) < rule_count bs
  pub most : n + k ≤ rule_count bs

-- of l the number after n others was taken out, and the k after it moved down
pub record Removed (n k : ℕ) (l m : List ℕ) : Type 0 where
  pub size : length m ≡ length l
  pub below : (i : ℕ) → i < 64 + n → at m i ≡ at l i
  pub moved : (j : ℕ) → j < k → at m (64 + n + j) ≡ at l (64 + n + 1 + j)

-- the k numbers after n others moved up
pub record Inserted (n k : ℕ) (l m : List ℕ) : Type 0 where
  pub size : length m ≡ length l
  pub below : (i : ℕ) → i < 64 + n → at m i ≡ at l i
  pub moved : (j : ℕ) → j < k → at m (64 + n + 1 + j) ≡ at l (64 + n + j)

-- the first k numbers listed are numbers of 16 bits
pub record Short (k : ℕ) (l : List ℕ) : Type 0 where
  pub most : k ≤ 252
  pub room : 64 + k ≤ length l
  pub each : (j : ℕ) → j < k → at l (64 + j) < 65536

-- they are the first entries of the list s', which else is as s
pub record Held (k : ℕ) (l s s' : List ℕ) : Type 0 where
  pub size : length s' ≡ length s
  pub each : (j : ℕ) → j < k → at s' j ≡ at l (64 + j)
  pub rest : (j : ℕ) → k ≤ j → at s' j ≡ at s j
