-- The tests of one block tell which block of the three it is, or that it is none.
use mathlib.Core.Path.{◌≡◌, sym, ◌∙◌, subst}
use mathlib.Core.List.{List}
use Prim.Native.Nat.{ℕ}
use native.Mathlib.Omega.{arith}
use Rattle.std.specs.Prelude.{Bool, Some, None}
use Rattle.std.specs.Bool.{then_some}
use Rattle.lists.specs.Lists.{at, part}
use Rattle.blocks.specs.Bytes.{from_le}
use Rattle.blocks.specs.Edition.{edition1}
use Rattle.blocks.specs.Block.{sixteen, Sound, Clear, Records, Header}
use Rattle.lists.specs.Tests.{Decides, holds, fails}
use Rattle.reader.specs.declared.Body.{Body}
use Rattle.reader.specs.Tests.{Is, words_block, rules_block, end_block, bad}

-- sum, edition and number are right
pub record Head (i : ℕ) (b : List ℕ) : Type 0 where
  pub sound : Sound b
  pub edition : at b 1 ≡ 1
  pub place : sixteen b 1 ≡ i

module _ {i : ℕ} {b : List ℕ} (head : Head i b) where
  header : {kind c : ℕ} → at b 0 ≡ kind → c ≡ sixteen b 2 → Header edition1 kind i c b
  header k n = record { kind_is = k; edition_is = head.edition; number_is = head.place; count_is = sym n; sound = head.sound }

  pub is_words : {c : ℕ} → at b 0 ≡ 1 → c ≡ sixteen b 2 → Records 24 1 21 c b → Is i b (Some (Body.Words c))
  is_words k n r = words_block (record { header = header k n; records = r })

  pub is_rules : {c : ℕ} → at b 0 ≡ 2 → c ≡ sixteen b 2 → Records 8 6 63 c b → Is i b (Some (Body.Rules c))
  is_rules k n r = rules_block (record { header = header k n; records = r })

  pub is_end : {l c : ℕ} → at b 0 ≡ 3 → c ≡ sixteen b 2 → c ≡ 0 → l ≡ from_le (part b 8 4) → Clear b 12 512 → Is i b (Some (Body.End l))
  is_end k n z e r = end_block (record { header = header k (sym z ∙ n); limit_is = sym e; rest = r })

-- ---- none of them

module _ {i : ℕ} {b : List ℕ} where
  no_header : ((kind c : ℕ) → ¬ Header edition1 kind i c b) → Is i b None
  no_header h = bad (record { words = λ c x. h 1 c x.header; rules = λ c x. h 2 c x.header; ends = λ l x. h 3 0 x.header })

  pub no_edition : ¬ (at b 1 ≡ 1) → Is i b None
  no_edition n = no_header (λ k c h. n h.edition_is)

  pub no_number : {x : ℕ} → x ≡ sixteen b 1 → ¬ (x ≡ i) → Is i b None
  no_number e n = no_header (λ k c h. n (e ∙ h.number_is))

  pub no_kind : ¬ (at b 0 ≡ 1) → ¬ (at b 0 ≡ 2) → ¬ (at b 0 ≡ 3) → Is i b None
  no_kind x y z =
      bad (record { words = λ c w. x w.header.kind_is; rules = λ c r. y r.header.kind_is; ends = λ l e. z e.header.kind_is })

  pub no_words : {c : ℕ} → at b 0 ≡ 1 → c ≡ sixteen b 2 → ¬ Records 24 1 21 c b → Is i b None
  no_words {c} k e n = bad (record {
    words = λ d w. n (subst (λ j. Records 24 1 21 j b) (sym (e ∙ w.header.count_is)) w.records);
    rules = λ d r. omega (arith, r.header.kind_is);
    ends = λ l x. omega (arith, x.header.kind_is);
  })

  pub no_rules : {c : ℕ} → at b 0 ≡ 2 → c ≡ sixteen b 2 → ¬ Records 8 6 63 c b → Is i b None
  no_rules {c} k e n = bad (record {
    words = λ d w. omega (arith, w.header.kind_is);
    rules = λ d r. n (subst (λ j. Records 8 6 63 j b) (sym (e ∙ r.header.count_is)) r.records);
    ends = λ l x. omega (arith, x.header.kind_is);
  })

  pub no_end : {c : ℕ} → at b 0 ≡ 3 → c ≡ sixteen b 2 → (c ≡ 0 → ¬ Clear b 12 512) → Is i b None
  no_end {c} k e n = bad (record {
    words = λ d w. omega (arith, w.header.kind_is);
    rules = λ d r. omega (arith, r.header.kind_is);
    ends = λ l x. n (e ∙ x.header.count_is) x.rest;
  })

-- ---- as its test tells

module _ {i : ℕ} {b : List ℕ} (head : Head i b) where
  pub words_told : {c : ℕ} {r : Bool} → at b 0 ≡ 1 → c ≡ sixteen b 2 → Decides (Records 24 1 21 c b) r → Is i b (then_some r (Body.Words c))
  words_told k e (holds p) = is_words head k e p
  words_told k e (fails n) = no_words k e n

  pub rules_told : {c : ℕ} {r : Bool} → at b 0 ≡ 2 → c ≡ sixteen b 2 → Decides (Records 8 6 63 c b) r → Is i b (then_some r (Body.Rules c))
  rules_told k e (holds p) = is_rules head k e p
  rules_told k e (fails n) = no_rules k e n

  pub end_told : {c l : ℕ} {r : Bool} → at b 0 ≡ 3 → c ≡ sixteen b 2 → c ≡ 0 → l ≡ from_le (part b 8 4) → Decides (Clear b 12 512) r
      → Is i b (then_some r (Body.End l))
  end_told k e z q (holds p) = is_end head k e z q p
  end_told k e z q (fails n) = no_end k e (λ y. n)
