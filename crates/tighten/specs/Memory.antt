-- Mirrors code: work memory as a table and a list of rules: low bounds from number 0 on, high bounds from 32 on, rule numbers from 64 on.
-- To be believed: `Cleared`.
use Rattle.std.specs.Prelude.{◌≡◌, ◌⊎◌, List, ℕ, zero, suc, ◌+◌, ◌*◌, ◌≤◌, ◌<◌, length, take, drop, set}
use Rattle.words.specs.Table.{Table}
use Rattle.lists.specs.Lists.{at, series}
use Rattle.rules.specs.Tight.{Rule, rule}
use Rattle.problem.specs.Lent.{stride, lo_at, hi_at}

-- the table of n words
unfoldable pub table_in : ℕ → List ℕ → Table
table_in n l = record { lo = take n l; hi = take n (drop 32 l) }

-- the c rules listed
unfoldable pub chosen : List Rule → List ℕ → ℕ → List Rule
chosen rs l c = series c (λ j. rule rs (at l (64 + j)))

-- of memory l nothing but the bounds of n words has changed in m
pub record Outside (n : ℕ) (l m : List ℕ) : Type 0 where
  pub size : length m ≡ length l
  pub rest : (i : ℕ) → n ≤ i → (i < 32) ⊎ (32 + n ≤ i) → at m i ≡ at l i

-- the bounds of the first n words of ws stand in m, which behind the table is as l
pub record Loaded (n : ℕ) (ws l m : List ℕ) : Type 0 where
  pub size : length m ≡ length l
  pub rest : (i : ℕ) → 64 ≤ i → at m i ≡ at l i
  pub low : (i : ℕ) → i < n → at m i ≡ lo_at ws i
  pub high : (i : ℕ) → i < n → at m (i + 32) ≡ hi_at ws i

-- the numbers 0 to c - 1 are listed in m, which below 64 is as l
pub record Numbered (c : ℕ) (l m : List ℕ) : Type 0 where
  pub size : length m ≡ length l
  pub each : (j : ℕ) → j < c → at m (64 + j) ≡ j
  pub rest : (i : ℕ) → i < 64 → at m i ≡ at l i

-- work' is all 0, and as long as work
pub record Cleared (work work' : List ℕ) : Type 0 where
  pub size : length work' ≡ length work
  pub zeros : (i : ℕ) → at work' i ≡ 0

-- the words ws with the bounds of the first n from memory l
unfoldable pub put_bounds : ℕ → List ℕ → List ℕ → List ℕ
put_bounds zero l ws = ws
put_bounds (suc i) l ws = set (set (put_bounds i l ws) (stride * i + 1) (at l i)) (stride * i + 2) (at l (i + 32))
