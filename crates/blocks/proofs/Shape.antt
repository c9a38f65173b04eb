-- What the machine has accepted is words blocks in order and then rules blocks in order, and the other way round.
use Rattle.std.proofs.Common.{◌≡◌, ℕ, zero, suc, ◌+◌, ◌*◌, ◌≤◌, List, length, sym, refl, ◌∙◌, subst, add-zero, add-suc, zero-add, arith}
use native.Mathlib.Nat.{mul-mod_right}
use Rattle.lists.specs.Lists.{Under}
use Rattle.blocks.specs.Edition.{Edition}
use Rattle.blocks.specs.Block.{RecordBlock, EndBlock}
use Rattle.rules.specs.ProperProblem.{most_words, most_rules}
use Rattle.blocks.specs.File.{block_at, count_at, Blocks, ProperFile}
use Rattle.blocks.specs.Machine.{Run, start, more_words, more_rules, Ended, end}
use Rattle.lists.proofs.Pieces.{total_none}
use Rattle.blocks.specs.Fair.{Fair}
use Rattle.blocks.proofs.Counts.{blocks_nothing, blocks_rise}
use Rattle.blocks.proofs.InOrder.{blocks_none, blocks_less, blocks_more, blocks_number}

-- p words blocks and q rules blocks
pub record Shaped (E : Edition) (f : List ℕ) (i n m : ℕ) : Type 0 where
  pub p : ℕ
  pub q : ℕ
  pub here : i ≡ p + q
  pub words : Blocks E 1 E.words f 0 p n
  pub rules : Blocks E 2 E.rules f p q m
  pub few : n ≤ most_words
  pub many : m ≤ most_rules

module _ (E : Edition) (fair : Fair E) (f : List ℕ) where
  pub run_shaped : {i n m : ℕ} → Run E f i n m → Shaped E f i n m
  run_shaped start = record {
    p = 0;
    q = 0;
    here = refl;
    words = blocks_none E 1 E.words fair.words f 0;
    rules = blocks_none E 2 E.rules fair.rules f 0;
    few = omega arith;
    many = omega arith;
  }
  run_shaped (more_words {i = i} {n = n} {n' = n'} {c = c} r z v l b) =
      let a = run_shaped r in
      let none = blocks_number E 2 E.rules fair.rules f a.p a.q 0 a.rules ∙ blocks_nothing E.rules.most fair.rules.some in
      let more = blocks_more E 1 E.words fair.words f 0 a.words z (omega (arith, a.here)) b in
      record {
        p = suc a.p;
        q = 0;
        here = omega (arith, a.here);
        words = subst (λ k. Blocks E 1 E.words f 0 (suc a.p) k) (sym v) more;
        rules = blocks_none E 2 E.rules fair.rules f (suc a.p);
        few = l;
        many = omega arith;
      }
  run_shaped (more_rules {i = i} {n = n} {m = m} {m' = m'} {c = c} r z v l b) =
      let a = run_shaped r in
      let more = blocks_more E 2 E.rules fair.rules f a.p a.rules z a.here b in
      record {
        p = a.p;
        q = suc a.q;
        here = omega (arith, a.here);
        words = a.words;
        rules = subst (λ k. Blocks E 2 E.rules f a.p (suc a.q) k) (sym v) more;
        few = a.few;
        many = l;
      }

  words_run : (p n : ℕ) → Blocks E 1 E.words f 0 p n → n ≤ most_words → Run E f p n 0
  words_run zero n b l = subst (λ k. Run E f 0 k 0) (sym (total_none (λ i. count_at f (0 + i))) ∙ b.count) start
  words_run (suc p) n b l =
      let x = blocks_less E 1 E.words fair.words f 0 b in
      let r = words_run p (E.words.most * p) x.before (omega (arith, x.count)) in
      more_words r (mul-mod_right E.words.most p) x.count l
      (subst (λ k. RecordBlock E 1 E.words k (count_at f (0 + p)) (block_at f k)) (zero-add p) x.here)

  rules_run : (p n : ℕ) → Run E f p n 0 → (q m : ℕ) → Blocks E 2 E.rules f p q m → m ≤ most_rules → Run E f (p + q) n m
  rules_run p n r zero m b l =
      rw add-zero (subst (λ k. Run E f p n k) (sym (total_none (λ i. count_at f (p + i))) ∙ b.count) r)
  rules_run p n r (suc q) m b l =
      let x = blocks_less E 2 E.rules fair.rules f p b in
      let r' = rules_run p n r q (E.rules.most * q) x.before (omega (arith, x.count)) in
      rw add-suc (more_rules r' (mul-mod_right E.rules.most q) x.count l x.here)

  pub shaped_run : {i n m : ℕ} → Shaped E f i n m → Run E f i n m
  shaped_run {i} {n} {m} a =
      rw a.here (rules_run a.p n (words_run a.p n a.words a.few) a.q m a.rules a.many)

  -- there is room for the end block
  pub shaped_blocks : {i n m : ℕ} → Shaped E f i n m → i + 1 ≤ E.blocks
  shaped_blocks {i} {n} {m} a =
      omega (
        arith,
        a.here,
        fair.enough,
        blocks_number E 1 E.words fair.words f 0 a.p n a.words,
        blocks_number E 2 E.rules fair.rules f a.p a.q m a.rules,
        blocks_rise E.words.most fair.words.some n most_words a.few,
        blocks_rise E.rules.most fair.rules.some m most_rules a.many,
      )

  -- ---- proper files are those that the machine reads to their end

  pub ended_proper : {k n m limit : ℕ} → Under 256 f → length f ≡ 512 * k → Ended E f k n m limit → ProperFile E f n m limit
  ended_proper u long (end {i = i} {limit = limit} r x) =
      let a = run_shaped r in
      record {
        p = a.p;
        q = a.q;
        bytes = u;
        long = omega (arith, a.here);
        blocks = omega (arith, shaped_blocks a, a.here);
        words = a.words;
        rules = a.rules;
        few = a.few;
        many = a.many;
        end = subst (λ k. EndBlock E k limit (block_at f k)) a.here x;
      }

  pub proper_shaped : {n m limit : ℕ} (a : ProperFile E f n m limit) → Shaped E f (a.p + a.q) n m
  proper_shaped a = record { p = a.p; q = a.q; here = refl; words = a.words; rules = a.rules; few = a.few; many = a.many }

  pub proper_ended : {n m limit : ℕ} (a : ProperFile E f n m limit) → Ended E f (suc (a.p + a.q)) n m limit
  proper_ended a = end (shaped_run (proper_shaped a)) a.end
