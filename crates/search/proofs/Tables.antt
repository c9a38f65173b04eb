-- The copy in lent memory as a table, and tables that stand in memory number by number.
use mathlib.Core.Path.{◌≡◌, refl, sym, ◌∙◌}
use mathlib.Core.List.{List}
use Prim.Native.Nat.{ℕ, ◌+◌, ◌≤◌, ◌<◌}
use native.Mathlib.Omega.{arith}
use lib.ListN.{length, drop, length-drop}
use lib.Seq.{ext_get_or, get_or-drop}
use Rattle.words.specs.Table.{Table}
use Rattle.lists.specs.Lists.{at}
use Rattle.words.proofs.Tables.{table_path}
use Rattle.tighten.specs.Memory.{table_in}
use Rattle.tighten.proofs.Memory.{low_at, high_at, lows, highs}
use Rattle.trail.specs.Trail.{copied}
use Rattle.search.specs.Guessing.{copy_in}

-- a table that stands in memory
pub table_as : (n : ℕ) (l : List ℕ) (t : Table) → n ≤ 32 → 64 ≤ length l → length t.lo ≡ n → length t.hi ≡ n
    → ((i : ℕ) → i < n → at l i ≡ at t.lo i) → ((i : ℕ) → i < n → at l (i + 32) ≡ at t.hi i) → table_in n l ≡ t
table_as n l t most room los his low high =
    table_path
    (ext_get_or 0 (table_in n l).lo t.lo (lows n l most room ∙ sym los)
    (λ i h. let k : i < n = rw (lows n l most room) at h in low_at n l i k ∙ low i k))
    (ext_get_or 0 (table_in n l).hi t.hi (highs n l most room ∙ sym his)
    (λ i h. let k : i < n = rw (highs n l most room) at h in high_at n l i k ∙ high i k))

-- two memories with the same numbers have the same table
pub table_same : (n : ℕ) (l m : List ℕ) → n ≤ 32 → 64 ≤ length l → length m ≡ length l → ((i : ℕ) → i < 64 → at m i ≡ at l i) → table_in n m ≡ table_in n l
table_same n l m most room size same =
    table_as n m (table_in n l) most (omega (arith, size)) (lows n l most room) (highs n l most room)
    (λ i h. same i (omega arith) ∙ sym (low_at n l i h)) (λ i h. same (i + 32) (omega arith) ∙ sym (high_at n l i h))

-- ---- the copy

module _ (n : ℕ) (l : List ℕ) (i : ℕ) (below : i < n) where
  pub copy_low : at (copy_in n l).lo i ≡ copied l i
  unfolding copy_in
  copy_low = low_at n (drop 316 l) i below ∙ get_or-drop 316 l i 0

  pub copy_high : at (copy_in n l).hi i ≡ copied l (i + 32)
  unfolding copy_in
  copy_high = high_at n (drop 316 l) i below ∙ get_or-drop 316 l (i + 32) 0

module _ (n : ℕ) (l : List ℕ) (most : n ≤ 32) (room : 380 ≤ length l) where
  behind : 64 ≤ length (drop 316 l)
  behind = simp length-drop (omega arith)

  pub copy_lows : length (copy_in n l).lo ≡ n
  unfolding copy_in
  copy_lows = lows n (drop 316 l) most behind

  pub copy_highs : length (copy_in n l).hi ≡ n
  unfolding copy_in
  copy_highs = highs n (drop 316 l) most behind

  -- a table that stands as the copy
  pub copy_as : (t : Table) → length t.lo ≡ n → length t.hi ≡ n
      → ((i : ℕ) → i < n → copied l i ≡ at t.lo i) → ((i : ℕ) → i < n → copied l (i + 32) ≡ at t.hi i) → copy_in n l ≡ t
  unfolding copy_in
  copy_as t los his low high =
      table_as n (drop 316 l) t most behind los his
      (λ i h. get_or-drop 316 l i 0 ∙ low i h) (λ i h. get_or-drop 316 l (i + 32) 0 ∙ high i h)

  -- two memories with the same numbers have the same copy
  pub copy_same : (m : List ℕ) → length l ≡ length m → ((i : ℕ) → i < 64 → copied l i ≡ copied m i) → copy_in n l ≡ copy_in n m
  unfolding copy_in
  copy_same m size same =
      table_same n (drop 316 m) (drop 316 l) most (simp length-drop (omega (arith, size))) (simp length-drop (rw size refl))
      (λ i h. get_or-drop 316 l i 0 ∙ same i h ∙ sym (get_or-drop 316 m i 0))
