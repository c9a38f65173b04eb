-- The table in work memory: what stands at a word's bounds, and new bounds stored.
use mathlib.Core.Path.{◌≡◌, refl, ap, ◌∙◌}
use mathlib.Core.Logic.{◌⊎◌, inl, inr}
use mathlib.Core.List.{List}
use Prim.Native.Nat.{ℕ, ◌+◌, ◌≤◌, ◌<◌}
use native.Mathlib.Nat.{add_comm}
use native.Mathlib.Omega.{arith}
use lib.ListN.{length, take, drop, set, length-take, length-drop, length-set}
use lib.Seq.{get_or-take, get_or-drop, take-set-le, drop-set-lt, get_or-set_other}
use Rattle.lists.proofs.Sets.{take_set_lt, drop_set_add}
use Rattle.lists.specs.Lists.{at}
use Rattle.words.proofs.Tables.{table_path}
use Rattle.rules.proofs.Narrowed.{narrowed}
use Rattle.tighten.specs.Memory.{table_in, Outside}

-- ---- lists

-- ---- the table

module _ (n : ℕ) (l : List ℕ) (i : ℕ) (below : i < n) where
  pub low_at : at (table_in n l).lo i ≡ at l i
  unfolding table_in
  low_at = get_or-take n l i 0 below

  pub high_at : at (table_in n l).hi i ≡ at l (i + 32)
  unfolding table_in
  high_at = get_or-take n (drop 32 l) i 0 below ∙ get_or-drop 32 l i 0 ∙ ap (at l) (add_comm 32 i)

module _ (n : ℕ) (l : List ℕ) (most : n ≤ 32) (room : 64 ≤ length l) where
  pub lows : length (table_in n l).lo ≡ n
  unfolding table_in
  lows = simp length-take (omega arith)

  pub highs : length (table_in n l).hi ≡ n
  unfolding table_in
  highs = simp (length-take, length-drop) (omega arith)

-- new bounds for word i
pub stored_table : (n : ℕ) (l : List ℕ) (i x y : ℕ) → i < n → n ≤ 32 → table_in n (set (set l i x) (i + 32) y) ≡ narrowed (table_in n l) i x y
unfolding table_in narrowed
stored_table n l i x y below most =
    table_path
    (take-set-le n (set l i x) (i + 32) y (omega arith) ∙ take_set_lt n l i x below)
    (ap (take n) (drop_set_add 32 (set l i x) i y ∙ ap (λ m. set m i y) (drop-set-lt 32 l i x (omega arith))) ∙ take_set_lt n (drop 32 l) i y below)

-- ---- what else is in memory

pub outside_refl : (n : ℕ) (l : List ℕ) → Outside n l l
outside_refl n l = record { size = refl; rest = λ i a b. refl }

pub outside_trans : {n : ℕ} {k l m : List ℕ} → Outside n k l → Outside n l m → Outside n k m
outside_trans p q = record { size = q.size ∙ p.size; rest = λ i a b. q.rest i a b ∙ p.rest i a b }

pub outside_stored : (n : ℕ) (l : List ℕ) (i x y : ℕ) → i < n → n ≤ 32 → Outside n l (set (set l i x) (i + 32) y)
outside_stored n l i x y below most = record {
  size = length-set (set l i x) (i + 32) y ∙ length-set l i x;
  rest = λ j a b. other j a b;
}
  where
    other : (j : ℕ) → n ≤ j → (j < 32) ⊎ (32 + n ≤ j) → at (set (set l i x) (i + 32) y) j ≡ at l j
    other j a (inl b) = get_or-set_other (set l i x) (i + 32) j y 0 (omega arith) ∙ get_or-set_other l i j x 0 (omega arith)
    other j a (inr b) = get_or-set_other (set l i x) (i + 32) j y 0 (omega arith) ∙ get_or-set_other l i j x 0 (omega arith)
