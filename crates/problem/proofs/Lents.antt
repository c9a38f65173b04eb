-- Lent numbers as lists of widths, bounds and rules: what stands at each index.
use mathlib.Core.Path.{◌≡◌, sym, ◌∙◌}
use mathlib.Core.List.{List}
use Prim.Native.Nat.{ℕ, ◌+◌, ◌*◌, ◌%◌, ◌≤◌, ◌<◌}
use native.Mathlib.Decide.{dec_lt}
use native.Mathlib.Omega.{arith}
use lib.ListN.{length, get_or-eq_default}
use Rattle.lists.proofs.Series.{length_series, series_at}
use Rattle.lists.specs.Lists.{at, series}
use Rattle.rules.specs.Tight.{rule, none_rule}
use Rattle.problem.specs.Lent.{stride, word_count, width_at, lo_at, hi_at, rule_count, rule_at, widths_of, table_of, rules_of}

-- one number of each word; past the last word stands 0
words_at : (ws : List ℕ) (g : ℕ → ℕ) → length ws % stride ≡ 0 → ((i : ℕ) → stride * i ≤ g i) → (i : ℕ)
    → at (series (word_count ws) (λ j. at ws (g j))) i ≡ at ws (g i)
words_at ws g whole from i = go (dec_lt i (word_count ws))
  where
    past : ¬ (i < word_count ws) → at ws (g i) ≡ 0
    past n = get_or-eq_default ws 0 (omega (arith, from i))

    go : Dec (i < word_count ws) → at (series (word_count ws) (λ j. at ws (g j))) i ≡ at ws (g i)
    go (yes l) = series_at 0 (word_count ws) i (λ j. at ws (g j)) l
    go (no n) =
        let l : length (series (word_count ws) (λ j. at ws (g j))) ≤ i = rw length_series (omega arith) in
        get_or-eq_default (series (word_count ws) (λ j. at ws (g j))) 0 l ∙ sym (past n)

module _ (ws : List ℕ) (whole : length ws % stride ≡ 0) where
  pub width_at_lem : (i : ℕ) → at (widths_of ws) i ≡ width_at ws i
  width_at_lem = words_at ws (λ i. stride * i) whole (λ i. omega arith)

  pub lo_at_lem : (i : ℕ) → at (table_of ws).lo i ≡ lo_at ws i
  lo_at_lem = words_at ws (λ i. stride * i + 1) whole (λ i. omega arith)

  pub hi_at_lem : (i : ℕ) → at (table_of ws).hi i ≡ hi_at ws i
  hi_at_lem = words_at ws (λ i. stride * i + 2) whole (λ i. omega arith)

  -- past the last word stand zeros
  pub past_last : (i : ℕ) → word_count ws ≤ i → (width_at ws i ≡ 0) × (lo_at ws i ≡ 0) × (hi_at ws i ≡ 0)
  past_last i l = (
    get_or-eq_default ws 0 (omega arith),
    get_or-eq_default ws 0 (omega arith),
    get_or-eq_default ws 0 (omega arith),
  )

pub rule_at_lem : (bs : List ℕ) (n : ℕ) → n < rule_count bs → rule (rules_of bs) n ≡ rule_at bs n
rule_at_lem bs n l = series_at none_rule (rule_count bs) n (rule_at bs) l
