-- The machine accepts exactly the beginnings of proper files.
use Rattle.std.proofs.Common.{◌≡◌, ℕ, zero, suc, ◌+◌, ◌-◌, ◌*◌, ◌<◌, ◌≤◌, List, ◌++◌}
use Rattle.std.proofs.Common.{length, sym, ap, ◌∙◌, subst, add-zero, add-suc, zero-add, arith, length-append}
use native.Mathlib.Decide.{dec_lt}
use Rattle.blocks.specs.Bytes.{le}
use Rattle.lists.specs.Lists.{part, Under}
use Rattle.blocks.specs.Edition.{Edition}
use Rattle.blocks.specs.File.{block_at, Begins}
use Rattle.blocks.specs.Machine.{Run, start, more_words, more_rules, Ended, end, Accepted, going, ended}
use Rattle.blocks.specs.Written.{block}
use Rattle.lists.proofs.Parts.{length_part, part_all, part_left, part_part, part_right}
use Rattle.lists.proofs.Unders.{under_part, under_append}
use Rattle.blocks.proofs.Numbers.{length_le}
use Rattle.blocks.proofs.Under.{under_block, under_le}
use Rattle.blocks.proofs.Block.{length_block}
use Rattle.blocks.specs.Fair.{Fair}
use Rattle.blocks.proofs.Records.{block_end}
use Rattle.blocks.proofs.Shape.{ended_proper, proper_ended, run_shaped, shaped_blocks}

-- ---- files whose first blocks are the same

pub same_part : (f g : List ℕ) (n a k : ℕ) → part f 0 n ≡ part g 0 n → a + k ≤ n → part f a k ≡ part g a k
same_part f g n a k e h =
    let z = zero-add a in
    ap (λ x. part f x k) (sym z)
    ∙ sym (part_part f 0 n a k h)
    ∙ ap (λ t. part t a k) e
    ∙ part_part g 0 n a k h
    ∙ ap (λ x. part g x k) z

module _ (E : Edition) (f g : List ℕ) where
  run_same : {i n m : ℕ} → ((j : ℕ) → j < i → block_at f j ≡ block_at g j) → Run E f i n m → Run E g i n m
  run_same e start = start
  run_same e (more_words {i = i} r z v l b) = more_words (run_same (λ j h. e j (omega arith)) r) z v l (rw (← e i (omega arith)) b)
  run_same e (more_rules {i = i} r z v l b) = more_rules (run_same (λ j h. e j (omega arith)) r) z v l (rw (← e i (omega arith)) b)

  ended_same : {i n m limit : ℕ} → ((j : ℕ) → j < i → block_at f j ≡ block_at g j) → Ended E f i n m limit → Ended E g i n m limit
  ended_same e (end {i = i} {limit = limit} r x) = end {limit = limit} (run_same (λ j h. e j (omega arith)) r) (rw (← e i (omega arith)) x)

-- ---- what is accepted begins a proper file: an end block finishes it

module _ (E : Edition) (fair : Fair E) (f : List ℕ) (u : Under 256 f) where
  -- the first i blocks and an end block
  finished : ℕ → List ℕ
  finished i = part f 0 (512 * i) ++ block E 3 i 0 (le 4 0)

  run_begins : {i n m : ℕ} → 512 * i ≤ length f → Run E f i n m → Begins E f i
  unfolding finished
  run_begins {i} {n} {m} long r =
      let k = length_part f 0 (512 * i) (omega arith) in
      let last = length_block E 3 i 0 (le 4 0) (rw length_le (omega arith)) in
      let size : length (finished i) ≡ 512 * suc i = length-append (part f 0 (512 * i)) (block E 3 i 0 (le 4 0)) ∙ (omega arith) in
      let same : part f 0 (512 * i) ≡ part (finished i) 0 (512 * i) =
      sym (part_left (part f 0 (512 * i)) (block E 3 i 0 (le 4 0)) 0 (512 * i) (omega arith) ∙ part_all (part f 0 (512 * i)) (512 * i) k) in
      let there = part_right (part f 0 (512 * i)) (block E 3 i 0 (le 4 0)) 0 512 (512 * i) k in
      let x : block_at (finished i) i ≡ block E 3 i 0 (le 4 0) = (rw add-zero at there) ∙ part_all (block E 3 i 0 (le 4 0)) 512 last in
      let small = shaped_blocks E fair f (run_shaped E fair f r) in
      let g = run_same E f (finished i) (λ j h. same_part f (finished i) (512 * i) (512 * j) 512 same (omega arith)) r in
      let ending = under_block E 3 i 0 (le 4 0) fair.byte (omega arith) (under_le 4 0) in
      let bytes = under_append 256 _ _ (under_part 256 f 0 (512 * i) (omega arith) u) ending in
      record {
        file = finished i;
        n = n;
        m = m;
        limit = 0;
        proper = ended_proper E fair (finished i) bytes size (end g (block_end E (block_at (finished i) i) i 0 (omega (arith, fair.few)) (omega arith) x));
        within = omega arith;
        same = same;
      }

  ended_begins : {i n m limit : ℕ} → 512 * i ≤ length f → Ended E f i n m limit → Begins E f i
  ended_begins {i} {n} {m} {limit} long x =
      let g = part f 0 (512 * i) in
      let k = length_part f 0 (512 * i) (omega arith) in
      let same = sym (part_all g (512 * i) k) in
      record {
        file = g;
        n = n;
        m = m;
        limit = limit;
        proper = ended_proper E fair g (under_part 256 f 0 (512 * i) (omega arith) u) k
            (ended_same E f g (λ j h. same_part f g (512 * i) (512 * j) 512 same (omega arith)) x);
        within = omega arith;
        same = same;
      }

  pub accepted_begins : {i : ℕ} → 512 * i ≤ length f → Accepted E f i → Begins E f i
  accepted_begins long (going r) = run_begins long r
  accepted_begins long (ended x) = ended_begins long x

-- ---- what begins a proper file is accepted

module _ (E : Edition) (f : List ℕ) where
  run_back : {i n m : ℕ} → Run E f (suc i) n m → (n' m' : ℕ) × Run E f i n' m'
  run_back (more_words {n = n} r z v l b) = (n, 0, r)
  run_back (more_rules {n = n} {m = m} r z v l b) = (n, m, r)

  -- any number of blocks fewer
  run_less : (d i n m : ℕ) → Run E f (i + d) n m → (n' m' : ℕ) × Run E f i n' m'
  run_less zero i n m r = (n, m, rw add-zero at r)
  run_less (suc d) i n m r = let (n', m', r') = run_back (rw add-suc at r) in run_less d i n' m' r'

module _ (E : Edition) (fair : Fair E) (f : List ℕ) where
  pub begins_accepted : {i : ℕ} → Begins E f i → Accepted E f i
  begins_accepted {i} b = go (dec_lt i (suc (b.proper.p + b.proper.q))) (proper_ended E fair g b.proper)
    where
      g : List ℕ
      g = b.file

      same : (j : ℕ) → j < i → block_at g j ≡ block_at f j
      same j h = sym (same_part f g (512 * i) (512 * j) 512 b.same (omega arith))

      go : Dec (i < suc (b.proper.p + b.proper.q)) → Ended E g (suc (b.proper.p + b.proper.q)) b.n b.m b.limit → Accepted E f i
      go (yes h) (end r x) =
          let e : i + (b.proper.p + b.proper.q - i) ≡ b.proper.p + b.proper.q = omega arith in
          let (n', m', r') = run_less E g (b.proper.p + b.proper.q - i) i b.n b.m (rw e r) in
          going (run_same E g f same r')
      go (no h) x =
          let e : suc (b.proper.p + b.proper.q) ≡ i = omega (arith, b.within, b.proper.long) in
          ended (ended_same E g f same (subst (λ k. Ended E g k b.n b.m b.limit) e x))
