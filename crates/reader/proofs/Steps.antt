-- The machine's step by what a block is, and where it is stuck.
use mathlib.Core.Path.{◌≡◌}
use mathlib.Core.List.{List}
use Prim.Native.Nat.{ℕ, ◌+◌, ◌%◌, ◌≤◌}
use native.Mathlib.Omega.{arith}
use Rattle.std.specs.Prelude.{Some, None}
use Rattle.blocks.proofs.Once.{kind_once}
use Rattle.reader.specs.declared.Body.{Body}
use Rattle.reader.specs.declared.State.{State}
use Rattle.reader.specs.Tests.{Is, words_block, rules_block, end_block, bad}
use Rattle.reader.specs.Scans.{BlockStep, words_step, rules_step, end_step, fault_step}

module _ {i : ℕ} {b : List ℕ} (n m : ℕ) where
  pub stuck_words : {c : ℕ} → Is i b (Some (Body.Words c)) → (m ≡ 0 → n % 21 ≡ 0 → n + c ≤ 32 → ⊥) → BlockStep b i n m None
  stuck_words {c} (words_block x) h = fault_step (record {
    words = λ d y p q r. h p q (omega (arith, x.header.count_is, y.header.count_is));
    rules = λ d y p q. omega (arith, kind_once x.header y.header);
    ends = λ l y. omega (arith, kind_once x.header y.header);
  })

  pub stuck_rules : {c : ℕ} → Is i b (Some (Body.Rules c)) → (m % 63 ≡ 0 → m + c ≤ 252 → ⊥) → BlockStep b i n m None
  stuck_rules {c} (rules_block x) h = fault_step (record {
    words = λ d y p q r. omega (arith, kind_once x.header y.header);
    rules = λ d y p q. h p (omega (arith, x.header.count_is, y.header.count_is));
    ends = λ l y. omega (arith, kind_once x.header y.header);
  })

  pub stuck_bad : Is i b None → BlockStep b i n m None
  stuck_bad (bad x) = fault_step (record { words = λ c y p q r. x.words c y; rules = λ c y p q. x.rules c y; ends = λ l y. x.ends l y })

  pub go_words : {c n' m' : ℕ} → Is i b (Some (Body.Words c)) → m ≡ 0 → n % 21 ≡ 0 → n' ≡ n + c → n' ≤ 32 → m' ≡ 0
      → BlockStep b i n m (Some (State.Going n' m'))
  go_words (words_block x) p q e l z = words_step x p q e l z

  pub go_rules : {c n' m' : ℕ} → Is i b (Some (Body.Rules c)) → m % 63 ≡ 0 → m' ≡ m + c → m' ≤ 252 → n' ≡ n → BlockStep b i n m (Some (State.Going n' m'))
  go_rules (rules_block x) q e l z = rules_step x q e l z

  pub go_end : {l : ℕ} → Is i b (Some (Body.End l)) → BlockStep b i n m (Some (State.Ended (record { words = n; rules = m; limit = l })))
  go_end (end_block x) = end_step x
