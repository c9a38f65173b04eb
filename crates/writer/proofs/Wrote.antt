-- Blocks of one kind written one after the other, and the parts of a file written one behind the other.
use mathlib.Core.Path.{◌≡◌, refl, ap, ◌∙◌, subst}
use mathlib.Core.List.{List, ◌++◌}
use Prim.Native.Nat.{ℕ, suc, ◌+◌, ◌*◌, ◌/◌, ◌%◌, ◌<◌, ◌≤◌, ◌-◌}
use native.Mathlib.Nat.{mul_comm, mul-le-mul_left, mul-suc}
use native.Mathlib.Decide.{dec_lt}
use Rattle.std.proofs.Common.{min}
use Rattle.std.proofs.lemmas.Grind.{div_ceil_times}
use Rattle.blocks.proofs.Counts.{block_needed, blocks_hold_all}
use native.Mathlib.Omega.{arith}
use lib.ListN.{length, length-append}
use borrow.Rule.Slice.PartMut.{put_mid}
use Rattle.problem.specs.Lent.{word_count, rule_count}
use Rattle.blocks.specs.Bytes.{le}
use Rattle.lists.specs.Lists.{put, flat}
use Rattle.blocks.specs.Records.{word_record, rule_record}
use Rattle.blocks.specs.Edition.{Form, edition1}
use Rattle.blocks.specs.Written.{held, blocks_for, block, blocks_of, word_blocks, rule_blocks, file_of, encode}
use Rattle.blocks.proofs.Block.{length_block}
use Rattle.blocks.proofs.Numbers.{length_le}
use Rattle.blocks.specs.Fair.{FormFits}
use Rattle.blocks.proofs.Fair.{fair1}
use Rattle.blocks.proofs.Sequence.{length_each, length_blocks_of}
use Rattle.lists.proofs.Puts.{put_put}
use Rattle.writer.specs.Items.{words_up_to, rules_up_to}
use Rattle.writer.proofs.Puts.{part_put}
use Rattle.writer.proofs.Filled.{flat_start, flat_turn}

module _ (kind : ℕ) (F : Form) (fits : FormFits F) (first n : ℕ) (bytes : ℕ → List ℕ) (sized : (j : ℕ)
    → length (bytes j) ≡ F.size) (f : List ℕ) (base : ℕ) where
  pub blocks_start : f ≡ put f base (blocks_of edition1 kind F.most first n bytes 0)
  unfolding blocks_of
  blocks_start = flat_start f base _

  blocks_turn : (g ys : List ℕ) (q a e c i : ℕ) → a ≡ base + 512 * q → e ≡ a + 512 → e ≤ length f → c ≡ held F.most n q → i ≡ first + q
      → g ≡ put f base (blocks_of edition1 kind F.most first n bytes q)
      → ys ≡ block edition1 kind i c (flat c (λ j. bytes (F.most * q + j)))
      → put_mid a (e - a) g ys ≡ put f base (blocks_of edition1 kind F.most first n bytes (q + 1))
  unfolding blocks_of
  blocks_turn g ys q a e c i pa pe inside pc pi pg py =
      let y : ys ≡ block edition1 kind (first + q) (held F.most n q) (flat (held F.most n q) (λ j. bytes (F.most * q + j))) = rw (pc, pi) at py in
      flat_turn f g (put_mid a (e - a) g ys) base a 512 q _ (λ j. length_each edition1 kind F fits first n bytes sized j) pa (omega arith) pg
      (part_put g ys a e 512 pe (ap length y ∙ length_each edition1 kind F fits first n bytes sized q) ∙ ap (put g a) y)

  -- as the code has the count of a full block and the number of records
  pub block_turn : (m k : ℕ) → m ≡ F.most → k ≡ n → (g ys : List ℕ) (q a c : ℕ) → a ≡ base + 512 * q → a + 512 ≤ length f → c ≡ min m (k - m * q)
      → g ≡ put f base (blocks_of edition1 kind F.most first n bytes q) → ys ≡ block edition1 kind (first + q) c (flat c (λ j. bytes (m * q + j)))
      → put_mid a (a + 512 - a) g ys ≡ put f base (blocks_of edition1 kind F.most first n bytes (q + 1))
  block_turn m k pm pk g ys q a c pa inside pc pg py =
      blocks_turn g ys q a (a + 512) c (first + q) pa refl inside (rw (pm, pk) at pc) refl pg (rw pm at py)

  pub blocks_end : (g : List ℕ) (q t : ℕ) → q ≡ t → g ≡ put f base (blocks_of edition1 kind F.most first n bytes q)
      → g ≡ put f base (blocks_of edition1 kind F.most first n bytes t)
  blocks_end g q t z e = rw z at e

-- what is left over takes one block more
pub blocks_up : (k n : ℕ) {m i x : ℕ} → 0 < k → m ≡ k → i ≡ n → x ≡ i / m + min 1 (i % m) → x ≡ blocks_for k n
blocks_up k n {m} {i} {x} some pm pi e = go (dec_lt x (blocks_for k n)) (dec_lt (blocks_for k n) x)
  where
    up : x ≡ n / k + min 1 (n % k)
    up = rw (pm, pi) at e

    times : (n ≤ (n / k + min 1 (n % k)) * k) × ((n / k + min 1 (n % k)) * k < n + k)
    times = div_ceil_times n k some

    same : x * k ≡ (n / k + min 1 (n % k)) * k
    same = ap (λ y. y * k) up

    go : Dec (x < blocks_for k n) → Dec (blocks_for k n < x) → x ≡ blocks_for k n
    go (yes h) d = absurd (omega (arith, block_needed k some n x h, times, same, mul_comm k x))
    go (no h) (yes d) =
        let more = mul-le-mul_left {m = suc (blocks_for k n)} {n = x} k d in
        absurd (omega (arith, blocks_hold_all k some n, times, same, mul_comm k x, more, mul-suc k (blocks_for k n)))
    go (no h) (no d) = omega arith

-- words blocks, rules blocks and the end block, one behind the other
pub file_put : (limit : ℕ) (ws bs f f₁ f₂ ys : List ℕ) (b k a e : ℕ)
    → 512 * (word_blocks edition1 (word_count ws) + rule_blocks edition1 (rule_count bs) + 1) ≤ length f
    → b ≡ word_blocks edition1 (word_count ws) → k ≡ b + rule_blocks edition1 (rule_count bs) → a ≡ 512 * k → e ≡ a + 512
    → f₁ ≡ put f 0 (words_up_to ws (word_blocks edition1 (word_count ws)))
    → f₂ ≡ put f₁ (512 * b) (rules_up_to bs b (rule_blocks edition1 (rule_count bs)))
    → ys ≡ block edition1 3 k 0 (le 4 limit)
    → put_mid a (e - a) f₂ ys ≡ put f 0 (encode edition1 limit ws bs)
unfolding encode file_of
file_put limit ws bs f f₁ f₂ ys b k a e room pb pk pa pe e₁ e₂ e₃ =
    let n = word_count ws in
    let m = rule_count bs in
    let B = word_blocks edition1 n in
    let C = rule_blocks edition1 m in
    let s₁ = words_up_to ws B in
    let s₂ = rules_up_to bs B C in
    let n₁ = length_blocks_of edition1 1 edition1.words fair1.words 0 n (word_record ws) (fair1.words.sized ws) B in
    let n₂ = length_blocks_of edition1 2 edition1.rules fair1.rules B m (rule_record bs) (fair1.rules.sized bs) C in
    let n₃ : length (block edition1 3 (B + C) 0 (le 4 limit)) ≡ 512 = length_block edition1 3 (B + C) 0 (le 4 limit) (rw length_le (omega arith)) in
    let n₁₂ = length-append s₁ s₂ in
    let y : ys ≡ block edition1 3 (B + C) 0 (le 4 limit) = e₃ ∙ ap (λ x. block edition1 3 x 0 (le 4 limit)) (pk ∙ ap (λ x. x + C) pb) in
    let x₂ : f₂ ≡ put f₁ (512 * B) s₂ = subst (λ x. f₂ ≡ put f₁ (512 * x) (rules_up_to bs x C)) pb e₂ in
    let p₂ : f₂ ≡ put f 0 (s₁ ++ s₂) = x₂ ∙ ap (λ t. put t (512 * B) s₂) e₁ ∙ put_put f 0 (512 * B) s₁ s₂ (omega arith) (omega arith) in
    let l = ap length y in
    part_put f₂ ys a e 512 pe (l ∙ n₃)
    ∙ ap (λ t. put t a ys) p₂
    ∙ put_put f 0 a (s₁ ++ s₂) ys (omega arith) (omega arith)
    ∙ ap (λ t. put f 0 ((s₁ ++ s₂) ++ t)) y
