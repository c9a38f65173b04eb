-- The machine reads a file in one way: one count of words and rules, one limit; and every block that it accepts has its sum right.
use Rattle.std.proofs.Common.{◌≡◌, ℕ, suc, ◌+◌, ◌<◌, List, sym, refl, ◌∙◌, subst, arith}
use native.Mathlib.Decide.{dec_lt}
use Rattle.blocks.specs.Edition.{Edition}
use Rattle.blocks.specs.Block.{Sound, Header, EndBlock}
use Rattle.blocks.specs.File.{block_at, ProperFile}
use Rattle.blocks.specs.Machine.{Run, start, more_words, more_rules, Ended, end, Accepted, going, ended}
use Rattle.blocks.specs.Fair.{Fair}
use Rattle.blocks.proofs.Shape.{proper_ended}

-- a block has one kind
pub kind_once : {E : Edition} {k i c k' i' c' : ℕ} {b : List ℕ} → Header E k i c b → Header E k' i' c' b → k ≡ k'
kind_once x y = sym x.kind_is ∙ y.kind_is

module _ {E : Edition} {f : List ℕ} where
  pub run_once : {i n m n' m' : ℕ} → Run E f i n m → Run E f i n' m' → (n ≡ n') × (m ≡ m')
  run_once start start = (refl, refl)
  run_once (more_words r z v l b) (more_words r' z' v' l' b') =
      let (x, y) = run_once r r' in
      (omega (arith, b.header.count_is, b'.header.count_is), refl)
  run_once (more_words r z v l b) (more_rules r' z' v' l' b') = absurd (omega (arith, kind_once b.header b'.header))
  run_once (more_rules r z v l b) (more_words r' z' v' l' b') = absurd (omega (arith, kind_once b.header b'.header))
  run_once (more_rules r z v l b) (more_rules r' z' v' l' b') =
      let (x, y) = run_once r r' in
      (x, omega (arith, b.header.count_is, b'.header.count_is))

  pub ended_once : {i n m l n' m' l' : ℕ} → Ended E f i n m l → Ended E f i n' m' l' → (n ≡ n') × (m ≡ m') × (l ≡ l')
  ended_once (end r x) (end r' x') = let (a, b) = run_once r r' in (a, b, sym x.limit_is ∙ x'.limit_is)

  -- no end block is among the blocks of a run, and none stands before another block
  pub run_no_end : {i n m l : ℕ} → Run E f (suc i) n m → EndBlock E i l (block_at f i) → ⊥
  run_no_end (more_words r z v l b) x = omega (arith, kind_once b.header x.header)
  run_no_end (more_rules r z v l b) x = omega (arith, kind_once b.header x.header)

  pub none_after_end : {i n m l : ℕ} → EndBlock E i l (block_at f i) → Run E f (suc (suc i)) n m → ⊥
  none_after_end x (more_words r z v l b) = run_no_end r x
  none_after_end x (more_rules r z v l b) = run_no_end r x

  -- ---- sums

  pub run_sound : {i n m : ℕ} → Run E f i n m → (j : ℕ) → j < i → Sound (block_at f j)
  run_sound start j h = absurd (omega arith)
  run_sound (more_words {i = i} r z v l b) j h = go (dec_lt j i) (run_sound r j)
    where
      go : Dec (j < i) → (j < i → Sound (block_at f j)) → Sound (block_at f j)
      go (yes g) ih = ih g
      go (no g) ih = let e : j ≡ i = omega arith in rw e b.header.sound
  run_sound (more_rules {i = i} r z v l b) j h = go (dec_lt j i) (run_sound r j)
    where
      go : Dec (j < i) → (j < i → Sound (block_at f j)) → Sound (block_at f j)
      go (yes g) ih = ih g
      go (no g) ih = let e : j ≡ i = omega arith in rw e b.header.sound

  pub ended_sound : {i n m l : ℕ} → Ended E f i n m l → (j : ℕ) → j < i → Sound (block_at f j)
  ended_sound (end {i = i} r x) j h = go (dec_lt j i)
    where
      go : Dec (j < i) → Sound (block_at f j)
      go (yes g) = run_sound r j g
      go (no g) = let e : j ≡ i = omega arith in rw e x.header.sound

  pub accepted_sound : {i : ℕ} → Accepted E f i → (j : ℕ) → j < i → Sound (block_at f j)
  accepted_sound (going r) = run_sound r
  accepted_sound (ended x) = ended_sound x

-- a proper file has one count of words and rules, and one limit
pub proper_once : {E : Edition} → Fair E → {f : List ℕ} {n m l n' m' l' : ℕ} → ProperFile E f n m l → ProperFile E f n' m' l'
    → (n ≡ n') × (m ≡ m') × (l ≡ l')
proper_once {E} fair {f} {n' = n'} {m' = m'} {l' = l'} a b =
    let e : suc (b.p + b.q) ≡ suc (a.p + a.q) = omega (arith, a.long, b.long) in
    ended_once (proper_ended E fair f a) (subst (λ k. Ended E f k n' m' l') e (proper_ended E fair f b))
