-- The guess as the code makes it is the published one: its word, its bit, and the two values.
use mathlib.Core.Path.{◌≡◌, sym, ap, ◌∙◌}
use mathlib.Core.Logic.{◌≢◌, inr}
use mathlib.Core.List.{List}
use Prim.Native.Nat.{ℕ, ◌+◌, ◌^◌, ◌≤◌, ◌<◌, ◌-◌}
use native.Mathlib.Nat.{zero-add}
use native.Mathlib.Omega.{arith}
use native.Mathlib.Decide.{dec_lt}
use lib.Bits.{bit_xor}
use Rattle.std.proofs.Common.{Option, None, Some, MatchOption}
use lib.ListN.{length, take, drop, set, length-set}
use lib.Seq.{take-set-le, drop-set-lt, get_or-set_other}
use Rattle.words.specs.Bits.{bit}
use Rattle.words.specs.Word.{top_open}
use Rattle.words.specs.Table.{Inside, Open, Guess, Done, with0, with1}
use Rattle.lists.specs.Lists.{at}
use Rattle.words.proofs.Order.{⊑_le, bit_of_zero, bits_ext}
use Rattle.words.proofs.Ops.{bit_xor_lem}
use Rattle.words.proofs.Tables.{in_reach, table_path}
use Rattle.words.proofs.Single.{top_open_lem}
use Rattle.tighten.specs.Memory.{table_in}
use Rattle.lists.proofs.Sets.{take_set_lt, drop_set_add}
use Rattle.tighten.proofs.Memory.{low_at, high_at, highs}
use Rattle.trail.specs.Trail.{copied, Moved}
use Rattle.search.specs.Guessing.{copy_in, top_at, zero_at, one_at, LowestAt, Lowest, Fixable, zero_fixed, one_fixed, Copied, Second}
use Rattle.search.proofs.Tables.{table_as, copy_low, copy_high, copy_lows, copy_highs}

-- numbers that differ have a bit that differs
pub xor_some : (a b : ℕ) → a ≢ b → 0 < bit_xor a b
xor_some a b d = go (dec_lt 0 (bit_xor a b))
  where
    same : bit_xor a b ≡ 0 → (j : ℕ) → bit a j ≡ bit b j
    same e j =
        let z : bit (bit_xor a b) j ≡ 0 = ap (λ (x : ℕ). bit x j) e ∙ bit_of_zero j in
        omega (arith, bit_xor_lem j a b)

    go : Dec (0 < bit_xor a b) → 0 < bit_xor a b
    go (yes h) = h
    go (no h) = absurd (d (bits_ext a b (same (omega arith))))

module _ (l : List ℕ) (i : ℕ) (f : Fixable l i) where
  lo_short : at l i < 2 ^ 64
  lo_short = omega (arith, ⊑_le _ _ f.under, f.short)

  pub some_open : 0 < bit_xor (at l i) (at l (i + 32))
  some_open = xor_some _ _ f.differs

  pub top_low : top_open (at l i) (at l (i + 32)) < 64
  unfolding top_open
  top_low = omega arith

  pub top_off : bit (at l i) (top_open (at l i) (at l (i + 32))) ≡ 0
  top_off = (top_open_lem _ _ f.under f.short lo_short some_open).0

  pub top_on : bit (at l (i + 32)) (top_open (at l i) (at l (i + 32))) ≡ 1
  top_on = (top_open_lem _ _ f.under f.short lo_short some_open).1

-- ---- the two values

module _ (n : ℕ) (l : List ℕ) (i : ℕ) (below : i < n) (most : n ≤ 32) where
  bit_at : top_at (table_in n l) i ≡ top_open (at l i) (at l (i + 32))
  bit_at = rw (low_at n l i below, high_at n l i below)

  pub first_table : table_in n (zero_fixed l i) ≡ zero_at (table_in n l) i
  unfolding zero_fixed table_in with0
  first_table =
      table_path
      (take-set-le n l (i + 32) _ (omega arith))
      (ap (take n) (drop_set_add 32 l i _) ∙ take_set_lt n (drop 32 l) i _ below
      ∙ ap (set (take n (drop 32 l)) i) (sym (rw bit_at (ap (λ x. x - 2 ^ top_open (at l i) (at l (i + 32))) (high_at n l i below)))))

  pub second_table : table_in n (one_fixed l i) ≡ one_at (table_in n l) i
  unfolding one_fixed table_in with1
  second_table =
      table_path
      (take_set_lt n l i _ below
      ∙ ap (set (take n l) i) (sym (rw bit_at (ap (λ x. x + 2 ^ top_open (at l i) (at l (i + 32))) (low_at n l i below)))))
      (ap (take n) (drop-set-lt 32 l i _ (omega arith)))

-- ---- the word

-- the first word whose bounds leave a bit open
pub lowest_first : (n : ℕ) (l : List ℕ) (r : Option ℕ)
    → MatchOption r ((k : ℕ) → 0 ≤ k → k < n → at l k ≡ at l (k + 32))
    (λ i. (0 ≤ i) × (i < n) × (at l i ≢ at l (i + 32)) × ((k : ℕ) → 0 ≤ k → k < i → at l k ≡ at l (k + 32)))
    → Lowest n l r
lowest_first n l None h = λ i k. h i (omega arith) k
lowest_first n l (Some i) h = record { below = h.1; same = λ k g. h.3 k (omega arith) g; differs = h.2 }

module _ {n : ℕ} (l : List ℕ) (most : n ≤ 32) (room : 64 ≤ length l) where
  -- a word whose bounds are the same has no open bit
  shut : (i b : ℕ) → i < n → at l i ≡ at l (i + 32) → ¬ Open (table_in n l) i b
  shut i b k e o =
      let same : at (table_in n l).lo i ≡ at (table_in n l).hi i = low_at n l i k ∙ e ∙ sym (high_at n l i k) in
      omega (arith, o.off, o.on, ap (λ (y : ℕ). bit y b) same)

  pub lowest_done : Lowest n l None → Done (table_in n l)
  lowest_done same i b o = let k : i < n = omega (arith, in_reach (table_in n l).hi i b o.on, highs n l most room) in shut i b k (same i k) o

  module _ {r : ℕ} (x : LowestAt n l r) (whole : Inside (table_in n l) (table_in n l)) (short : (i : ℕ) → at (table_in n l).hi i < 2 ^ 64) where
    pub lowest_fixable : Fixable l r
    lowest_fixable = record {
      word = omega (arith, x.below);
      room = room;
      under = rw (low_at n l r x.below, high_at n l r x.below) at (whole.mid r);
      short = rw (high_at n l r x.below) at (short r);
      differs = x.differs;
    }

    pub lowest_guess : Guess (table_in n l) r (top_at (table_in n l) r)
    lowest_guess =
        let f = lowest_fixable in
        let lo = low_at n l r x.below in
        let hi = high_at n l r x.below in
        let (off, on, above) = top_open_lem (at l r) (at l (r + 32)) f.under f.short (lo_short l r f) (some_open l r f) in
        rw (bit_at n l r x.below most) (record {
          here = record { off = rw lo off; on = rw hi on };
          lowest = λ k b g. shut k b (omega (arith, x.below)) (x.same k g);
          highest = λ b g o. omega (arith, above b g, o.off, o.on, ap (λ (y : ℕ). bit y b) lo, ap (λ (y : ℕ). bit y b) hi);
        })

-- ---- the second value

module _ {n : ℕ} {l : List ℕ} {i : ℕ} {k : List ℕ} (x : Copied n l i) (y : Moved n 316 0 l k) where
  moved_table : table_in n k ≡ copy_in n l
  moved_table =
      table_as n k (copy_in n l) x.words (omega (arith, y.size, x.room)) (copy_lows n l x.words x.room) (copy_highs n l x.words x.room)
      (λ q h. low q h ∙ sym (copy_low n l q h)) (λ q h. high q h ∙ sym (copy_high n l q h))
    where
      low : (q : ℕ) → q < n → at k q ≡ copied l q
      low q h = ap (at k) (sym (zero-add q)) ∙ y.low q h

      high : (q : ℕ) → q < n → at k (q + 32) ≡ copied l (q + 32)
      high q h =
          let e : q + 32 ≡ 0 + 32 + q = omega arith in
          let f : 316 + 32 + q ≡ 316 + (q + 32) = omega arith in
          ap (at k) e ∙ y.high q h ∙ ap (at l) f

  pub moved_fixable : Fixable k i
  moved_fixable =
      let lo : at (copy_in n l).lo i ≡ at k i = ap (λ t. at t.lo i) (sym moved_table) ∙ low_at n k i x.word in
      let hi : at (copy_in n l).hi i ≡ at k (i + 32) = ap (λ t. at t.hi i) (sym moved_table) ∙ high_at n k i x.word in
      record {
        word = omega (arith, x.word, x.words);
        room = omega (arith, y.size, x.room);
        under = rw (lo, hi) at x.under;
        short = rw hi at x.short;
        differs = rw (lo, hi) at x.differs;
      }

  pub second_left : (m : List ℕ) → m ≡ one_fixed k i → Second n l i m
  unfolding one_fixed
  second_left m e = record {
    size = ap length e ∙ length-set k i _ ∙ y.size;
    table = ap (table_in n) e ∙ second_table n k i x.word x.words ∙ ap (λ t. one_at t i) moved_table;
    rest = λ q h. ap (λ z. at z q) e ∙ get_or-set_other k i q _ 0 (omega (arith, x.word, x.words)) ∙ y.rest q (inr (omega arith));
  }
