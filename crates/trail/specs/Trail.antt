-- Mirrors code: memory that holds a table at 0..64, a copy at 316..380 and a trail from 380 on: what is put on the trail, and how it is taken back.
use Rattle.std.specs.Prelude.{◌≡◌, not, cond, ◌⊎◌, List, ℕ, zero, suc, ◌+◌, ◌*◌, ◌≤◌, ◌<◌, ◌-◌, eqb, length}
use Rattle.words.specs.Bits.{one}
use Rattle.lists.specs.Lists.{at}

-- 1 where two numbers differ, else 0
abbrev pub apart : ℕ → ℕ → ℕ
apart x y = one (not (eqb x y))

-- how many bounds of the first n words differ between table and copy
unfoldable pub changes : ℕ → List ℕ → ℕ
changes zero l = 0
changes (suc n) l = changes n l + apart (at l n) (at l (316 + n)) + apart (at l (n + 32)) (at l (316 + (n + 32)))

-- which number of the copy entry j names, and what it was
abbrev pub entry_place : List ℕ → ℕ → ℕ
entry_place l j = at l (380 + 2 * j)

abbrev pub was : List ℕ → ℕ → ℕ
was l j = at l (380 + 2 * j + 1)

-- number i of the copy
abbrev pub copied : List ℕ → ℕ → ℕ
copied l i = at l (316 + i)

-- numbers f with entry j taken back
abbrev pub without : List ℕ → ℕ → (ℕ → ℕ) → ℕ → ℕ
without l j f i = cond (eqb i (entry_place l j)) (was l j) (f i)

-- numbers f with the n entries from entry b on taken back, the last first
unfoldable pub undone : List ℕ → ℕ → ℕ → (ℕ → ℕ) → ℕ → ℕ
undone l b zero f i = f i
undone l b (suc n) f i = undone l b n (without l (b + n) f) i

-- of memory l nothing but the copy has changed in m
pub record CopyOnly (l m : List ℕ) : Type 0 where
  pub size : length m ≡ length l
  pub rest : (i : ℕ) → (i < 316) ⊎ (380 ≤ i) → at m i ≡ at l i

-- from n entries and memory l to e entries and memory m: number k of the copy is the table's, and what is taken back from any entry on is the same
pub record Kept (l : List ℕ) (n k : ℕ) (m : List ℕ) (e : ℕ) : Type 0 where
  pub size : length m ≡ length l
  pub below : (i : ℕ) → i < 316 → at m i ≡ at l i
  pub trail : (i : ℕ) → 380 ≤ i → i < 380 + 2 * n → at m i ≡ at l i
  pub here : copied m k ≡ at l k
  pub other : (i : ℕ) → i < 64 → ¬ (i ≡ k) → copied m i ≡ copied l i
  pub back : (b i : ℕ) → b ≤ n → i < 64 → undone m b (e - b) (copied m) i ≡ undone l b (n - b) (copied l) i
  pub count : e ≡ n + apart (at l k) (at l (316 + k))

-- the copy of n words is the table; the entries from b to e take that back, and those below b are as they were
pub record Committed (n b : ℕ) (l m : List ℕ) (e : ℕ) : Type 0 where
  pub size : length m ≡ length l
  pub below : (i : ℕ) → i < 316 → at m i ≡ at l i
  pub trail : (i : ℕ) → 380 ≤ i → i < 380 + 2 * b → at m i ≡ at l i
  pub low : (i : ℕ) → i < n → copied m i ≡ at l i
  pub high : (i : ℕ) → i < n → copied m (i + 32) ≡ at l (i + 32)
  pub back : (i : ℕ) → i < 64 → undone m b (e - b) (copied m) i ≡ copied l i
  pub count : e ≡ b + changes n l

-- entry j was taken back
pub record Back (l : List ℕ) (j : ℕ) (m : List ℕ) : Type 0 where
  pub frame : CopyOnly l m
  pub copy : (i : ℕ) → i < 64 → copied m i ≡ without l j (copied l) i

-- the entries from b to e were taken back
pub record RolledBack (b e : ℕ) (l m : List ℕ) : Type 0 where
  pub frame : CopyOnly l m
  pub copy : (i : ℕ) → i < 64 → copied m i ≡ undone l b (e - b) (copied l) i

-- the bounds of n words at `from` stand at `to`; outside the 64 numbers there nothing has changed
pub record Moved (n from to : ℕ) (l m : List ℕ) : Type 0 where
  pub size : length m ≡ length l
  pub low : (i : ℕ) → i < n → at m (to + i) ≡ at l (from + i)
  pub high : (i : ℕ) → i < n → at m (to + 32 + i) ≡ at l (from + 32 + i)
  pub rest : (i : ℕ) → (i < to) ⊎ (to + 64 ≤ i) → at m i ≡ at l i
