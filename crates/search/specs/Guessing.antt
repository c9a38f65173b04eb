-- Mirrors code: the guess in lent memory: the word that it falls on, and its highest open bit fixed 0 or 1.
use Rattle.std.specs.Prelude.{◌≡◌, ◌≢◌, List, ℕ, ◌+◌, ◌^◌, ◌≤◌, ◌<◌, ◌-◌, length, drop, set, Option, None, Some}
use Rattle.words.specs.Bits.{◌⊑◌}
use Rattle.words.specs.Word.{top_open}
use Rattle.words.specs.Table.{Table, with0, with1}
use Rattle.lists.specs.Lists.{at}
use Rattle.tighten.specs.Memory.{table_in}

-- the copy of n words, as a table
unfoldable pub copy_in : ℕ → List ℕ → Table
copy_in n l = table_in n (drop 316 l)

-- the highest open bit of word i, where it has one
abbrev pub top_at : Table → ℕ → ℕ
top_at t i = top_open (at t.lo i) (at t.hi i)

-- the table with that bit fixed 0, and fixed 1
abbrev pub zero_at : Table → ℕ → Table
zero_at t i = with0 t i (top_at t i)

abbrev pub one_at : Table → ℕ → Table
one_at t i = with1 t i (top_at t i)

-- word r is the lowest-numbered of the n words whose bounds differ
pub record LowestAt (n : ℕ) (l : List ℕ) (r : ℕ) : Type 0 where
  pub below : r < n
  pub same : (i : ℕ) → i < r → at l i ≡ at l (i + 32)
  pub differs : at l r ≢ at l (r + 32)

-- r is that word, or the bounds of none differ
abbrev pub Lowest : ℕ → List ℕ → Option ℕ → Type 0
Lowest n l None = (i : ℕ) → i < n → at l i ≡ at l (i + 32)
Lowest n l (Some r) = LowestAt n l r

-- word i of the table has bounds of 64 bits that differ
pub record Fixable (l : List ℕ) (i : ℕ) : Type 0 where
  pub word : i < 32
  pub room : 64 ≤ length l
  pub under : at l i ⊑ at l (i + 32)
  pub short : at l (i + 32) < 2 ^ 64
  pub differs : at l i ≢ at l (i + 32)

-- its highest open bit fixed 0, and fixed 1
unfoldable pub zero_fixed : List ℕ → ℕ → List ℕ
zero_fixed l i = set l (i + 32) (at l (i + 32) - 2 ^ top_open (at l i) (at l (i + 32)))

unfoldable pub one_fixed : List ℕ → ℕ → List ℕ
one_fixed l i = set l i (at l i + 2 ^ top_open (at l i) (at l (i + 32)))

-- word i of the copy of n words has bounds of 64 bits that differ
pub record Copied (n : ℕ) (l : List ℕ) (i : ℕ) : Type 0 where
  pub words : n ≤ 32
  pub word : i < n
  pub room : 380 ≤ length l
  pub under : at (copy_in n l).lo i ⊑ at (copy_in n l).hi i
  pub short : at (copy_in n l).hi i < 2 ^ 64
  pub differs : at (copy_in n l).lo i ≢ at (copy_in n l).hi i

-- the table is the copy with that bit fixed 1, and behind the table nothing has changed
pub record Second (n : ℕ) (l : List ℕ) (i : ℕ) (m : List ℕ) : Type 0 where
  pub size : length m ≡ length l
  pub table : table_in n m ≡ one_at (copy_in n l) i
  pub rest : (q : ℕ) → 64 ≤ q → at m q ≡ at l q
