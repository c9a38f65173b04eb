-- The lent numbers of a draft, read as `Lent` reads them, are its words and its rules; each number of a word is below 2^64, each of a rule is a byte.
use mathlib.Core.Path.{◌≡◌, sym, ap, ◌∙◌}
use mathlib.Core.List.{List, []}
use Prim.Native.Nat.{ℕ, ◌+◌, ◌*◌, ◌%◌, ◌^◌, ◌≤◌, ◌<◌}
use native.Mathlib.Nat.{add-zero, lt_of_le_of_lt}
use native.Mathlib.Omega.{arith}
use lib.ListN.{length}
use lib.Seq.{ext_get_or}
use Rattle.lists.specs.Lists.{at, Under}
use Rattle.lists.proofs.Series.{length_series, series_at, series_is}
use Rattle.lists.proofs.Unders.{under_none, under_cons, under_flat}
use Rattle.words.proofs.Order.{⊑_le}
use Rattle.words.proofs.Tables.{table_path}
use Rattle.rules.specs.Kinds.{R, A, B, S}
use Rattle.rules.specs.Tight.{Rule, rule, none_rule}
use Rattle.rules.specs.ProperProblem.{ProperRule}
use Rattle.problem.specs.Lent.{stride, fields, word_count, width_at, lo_at, hi_at, rule_count, rule_at, widths_of, table_of, rules_of}
use Rattle.problem.proofs.Readings.{words_below}
use Rattle.search_theory.proofs.Solved.{width_most, proper_short}
use Rattle.scripts.specs.Draft.{Draft}
use Rattle.scripts.specs.Stored.{word_entry, rule_entry, stored_words, stored_rules}
use Rattle.scripts.proofs.ProperDraft.{ProperDraft}
use Rattle.scripts.proofs.Stored.{words_length, rules_length, words_at, rules_at}

-- ---- as many words and rules, none cut short

module _ (p : Draft) where
  pub word_count_lem : word_count (stored_words p) ≡ length p.widths
  word_count_lem = omega (arith, words_length p)

  pub whole_words : length (stored_words p) % stride ≡ 0
  whole_words = omega (arith, words_length p)

  pub rule_count_lem : rule_count (stored_rules p) ≡ length p.rules
  rule_count_lem = omega (arith, rules_length p)

  pub whole_rules : length (stored_rules p) % fields ≡ 0
  whole_rules = omega (arith, rules_length p)

  -- ---- read back

  width_back : (i : ℕ) → i < length p.widths → width_at (stored_words p) i ≡ at p.widths i
  width_back i l = ap (at (stored_words p)) (sym (add-zero (stride * i))) ∙ words_at p i 0 l (omega arith)

  lo_back : (i : ℕ) → i < length p.widths → lo_at (stored_words p) i ≡ at p.table.lo i
  lo_back i l = words_at p i 1 l (omega arith)

  hi_back : (i : ℕ) → i < length p.widths → hi_at (stored_words p) i ≡ at p.table.hi i
  hi_back i l = words_at p i 2 l (omega arith)

  rule_back : (n : ℕ) → n < length p.rules → rule_at (stored_rules p) n ≡ rule p.rules n
  rule_back n l =
      let kind : at (stored_rules p) (fields * n) ≡ (rule p.rules n).kind =
      ap (at (stored_rules p)) (sym (add-zero (fields * n))) ∙ rules_at p n 0 l (omega arith)
      in
      let r : at (stored_rules p) (fields * n + 1) ≡ (rule p.rules n).r = rules_at p n 1 l (omega arith) in
      let a : at (stored_rules p) (fields * n + 2) ≡ (rule p.rules n).a = rules_at p n 2 l (omega arith) in
      let b : at (stored_rules p) (fields * n + 3) ≡ (rule p.rules n).b = rules_at p n 3 l (omega arith) in
      let s : at (stored_rules p) (fields * n + 4) ≡ (rule p.rules n).s = rules_at p n 4 l (omega arith) in
      let k : at (stored_rules p) (fields * n + 5) ≡ (rule p.rules n).k = rules_at p n 5 l (omega arith) in
      λ i. record { kind = kind i; r = r i; a = a i; b = b i; s = s i; k = k i }

  pub widths_back : widths_of (stored_words p) ≡ p.widths
  widths_back =
      series_is p.widths (word_count (stored_words p)) (width_at (stored_words p)) (sym word_count_lem) (λ i l. width_back i (omega (arith, word_count_lem)))

  pub table_back : ProperDraft p → table_of (stored_words p) ≡ p.table
  table_back h =
      let count = word_count (stored_words p) in
      table_path
      (series_is p.table.lo count (lo_at (stored_words p)) (h.table.los ∙ sym word_count_lem) (λ i l. lo_back i (omega (arith, word_count_lem))))
      (series_is p.table.hi count (hi_at (stored_words p)) (h.table.his ∙ sym word_count_lem) (λ i l. hi_back i (omega (arith, word_count_lem))))

  pub rules_back : rules_of (stored_rules p) ≡ p.rules
  rules_back =
      ext_get_or none_rule (rules_of (stored_rules p)) p.rules (long ∙ rule_count_lem)
      (λ n l. series_at none_rule (rule_count (stored_rules p)) n (rule_at (stored_rules p)) (rw long at l)
      ∙ rule_back n (omega (arith, rule_count_lem, rw long at l)))
    where
      long : length (rules_of (stored_rules p)) ≡ rule_count (stored_rules p)
      long = length_series (rule_count (stored_rules p)) (rule_at (stored_rules p))

-- ---- they can be stored

word_under : (w lo hi : ℕ) → w < 2 ^ 64 → lo < 2 ^ 64 → hi < 2 ^ 64 → Under (2 ^ 64) (word_entry w lo hi)
word_under w lo hi a b c = under_cons (2 ^ 64) w _ a (under_cons (2 ^ 64) lo _ b (under_cons (2 ^ 64) hi [] c (under_none (2 ^ 64) (omega arith))))

rule_under : (w : List ℕ) (ρ : Rule) → ProperRule w ρ → ρ.k < 256 → length w ≤ 256 → Under 256 (rule_entry ρ)
rule_under w ρ h k l =
    under_cons 256 ρ.kind _ (omega (arith, h.kind.high))
    (under_cons 256 ρ.r _ (omega (arith, words_below h R)) (under_cons 256 ρ.a _ (omega (arith, words_below h A))
    (under_cons 256 ρ.b _ (omega (arith, words_below h B)) (under_cons 256 ρ.s _ (omega (arith, words_below h S))
    (under_cons 256 ρ.k [] k (under_none 256 (omega arith)))))))

module _ (p : Draft) (h : ProperDraft p) where
  pub words_under : Under (2 ^ 64) (stored_words p)
  unfolding stored_words
  words_under =
      under_flat (2 ^ 64) (length p.widths) _ (omega arith) (λ i l.
      word_under (at p.widths i) (at p.table.lo i) (at p.table.hi i) (omega (arith, width_most h.table i))
      (lt_of_le_of_lt (⊑_le (at p.table.lo i) (at p.table.hi i) (h.table.bounded i).under) (proper_short h.table i))
      (proper_short h.table i))

  pub rules_under : length p.widths ≤ 256 → Under 256 (stored_rules p)
  unfolding stored_rules
  rules_under l = under_flat 256 (length p.rules) _ (omega arith) (λ n k. rule_under p.widths (rule p.rules n) (h.each n k) (h.amounts n k) l)
