-- Blocks of one kind in order: one block more, one less, how many there are and how many records each holds.
use Rattle.std.proofs.Common.{◌≡◌, ℕ, zero, suc, ◌+◌, ◌*◌, ◌%◌, ◌<◌, List, sym, ap, ◌∙◌, subst, mul-le-mul_left, mul-zero, mul-suc, arith}
use native.Mathlib.Decide.{dec_lt}
use Rattle.lists.specs.Lists.{total}
use Rattle.blocks.specs.Edition.{Form, Edition}
use Rattle.blocks.specs.Block.{RecordBlock}
use Rattle.blocks.specs.File.{block_at, count_at, Blocks}
use Rattle.blocks.specs.Written.{held, blocks_for}
use Rattle.lists.proofs.Pieces.{total_none, total_more}
use Rattle.blocks.specs.Fair.{FormFits}
use Rattle.blocks.proofs.Counts.{blocks_exact, blocks_nothing, full_last}

module _ (E : Edition) (kind : ℕ) (F : Form) (fits : FormFits F) (f : List ℕ) (first : ℕ) where
  pub blocks_none : Blocks E kind F f first 0 0
  blocks_none = record { each = λ i h. absurd (omega arith); full = λ i h. absurd (omega arith); count = total_none (λ i. count_at f (first + i)) }

  full_total : (q : ℕ) → ((i : ℕ) → i < q → count_at f (first + i) ≡ F.most) → total q (λ i. count_at f (first + i)) ≡ F.most * q
  full_total zero h = rw mul-zero (total_none (λ i. count_at f (first + i)))
  full_total (suc q) h =
      total_more q (λ i. count_at f (first + i)) ∙ rw (full_total q (λ i l. h i (omega arith)), h q (omega arith), mul-suc)

  -- the last block, and those before it, which are full
  pub record Last (q n : ℕ) : Type 0 where
    pub before : Blocks E kind F f first q (F.most * q)
    pub here : RecordBlock E kind F (first + q) (count_at f (first + q)) (block_at f (first + q))
    pub count : n ≡ F.most * q + count_at f (first + q)

  pub blocks_less : {q n : ℕ} → Blocks E kind F f first (suc q) n → Last q n
  blocks_less {q} {n} b =
      let t = full_total q (λ i h. b.full i (omega arith)) in
      record {
        before = record { each = λ i h. b.each i (omega arith); full = λ i h. b.full i (omega arith); count = t };
        here = b.each q (omega arith);
        count = sym b.count ∙ total_more q (λ i. count_at f (first + i)) ∙ ap (λ x. x + count_at f (first + q)) t;
      }

  -- where the records fill their blocks, each of them is full
  all_full : (q n : ℕ) → Blocks E kind F f first q n → n % F.most ≡ 0 → (i : ℕ) → i < q → count_at f (first + i) ≡ F.most
  all_full zero n b e i h = absurd (omega arith)
  all_full (suc q) n b e i h = go (dec_lt i q)
    where
      go : Dec (i < q) → count_at f (first + i) ≡ F.most
      go (yes l) = b.full i (omega arith)
      go (no l) =
          let x = blocks_less b in
          let r = x.here.records in
          let z : i ≡ q = omega arith in
          rw z (full_last F.most fits.some q (count_at f (first + q)) r.some r.fits (sym (ap (λ m. m % F.most) x.count) ∙ e))

  pub blocks_more : {q n c i : ℕ} → Blocks E kind F f first q n → n % F.most ≡ 0 → i ≡ first + q → RecordBlock E kind F i c (block_at f i)
      → Blocks E kind F f first (suc q) (n + c)
  blocks_more {q} {n} {c} {i} b e p r = record {
    each = λ j h. go j h (dec_lt j q);
    full = λ j h. all_full q n b e j (omega arith);
    count = total_more q (λ i. count_at f (first + i)) ∙ rw (b.count, ← p, r.header.count_is);
  }
    where
      go : (j : ℕ) → j < suc q → Dec (j < q) → RecordBlock E kind F (first + j) (count_at f (first + j)) (block_at f (first + j))
      go j h (yes l) = b.each j l
      go j h (no l) =
          let z : i ≡ first + j = omega arith in
          subst (λ k. RecordBlock E kind F k (count_at f k) (block_at f k)) z (rw r.header.count_is r)

  -- how many blocks there are, and how many records each holds
  pub blocks_number : (q n : ℕ) → Blocks E kind F f first q n → q ≡ blocks_for F.most n
  blocks_number zero n b =
      let e : 0 ≡ n = sym (total_none (λ i. count_at f (first + i))) ∙ b.count in
      sym (ap (blocks_for F.most) (sym e) ∙ blocks_nothing F.most fits.some)
  blocks_number (suc q) n b =
      let x = blocks_less b in
      let r = x.here.records in
      sym (blocks_exact F.most fits.some n q (count_at f (first + q)) x.count r.some r.fits)

  pub blocks_held : (q n : ℕ) → Blocks E kind F f first q n → (i : ℕ) → i < q → count_at f (first + i) ≡ held F.most n i
  blocks_held zero n b i h = absurd (omega arith)
  blocks_held (suc q) n b i h = go (dec_lt i q)
    where
      go : Dec (i < q) → count_at f (first + i) ≡ held F.most n i
      go (yes l) =
          let x = blocks_less b in
          omega (arith, b.full i (omega arith), x.count, mul-le-mul_left F.most l, mul-suc F.most i)
      go (no l) =
          let x = blocks_less b in
          let z : i ≡ q = omega arith in
          rw z (omega (arith, x.count, x.here.records.fits))
