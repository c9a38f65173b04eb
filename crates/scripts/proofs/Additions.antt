-- What each closing bracket adds to the numbers of words and rules, for a pass that counts and stores nothing; and to what is lent, for one that stores.
use mathlib.Core.Path.{◌≡◌, refl}
use mathlib.Core.List.{◌++◌}
use Prim.Native.Nat.{ℕ, suc, ◌-◌, ◌^◌}
use lib.ListN.{length}
use Rattle.lists.proofs.Snoc.{length_more}
use Rattle.rules.specs.Kinds.{Op}
use Rattle.rules.specs.Tight.{Rule}
use Rattle.scripts.specs.Draft.{Draft, more_word, more_rule, computing_rule}
use Rattle.scripts.specs.Making.{constant_ends, computed_ends}
use Rattle.scripts.specs.Stored.{word_entry, rule_entry, stored_words, stored_rules}
use Rattle.scripts.proofs.ProperDraft.{ProperDraft}
use Rattle.scripts.proofs.Stored.{words_more, rules_more}

module _ (p : Draft) where
  -- ---- counts

  -- a constant: one word
  pub constant_counts : (m v : ℕ) → ((constant_ends m v p).word ≡ length p.widths) × ((constant_ends m v p).width ≡ m)
      × (length (constant_ends m v p).draft.widths ≡ suc (length p.widths)) × (length (constant_ends m v p).draft.rules ≡ length p.rules)
  unfolding constant_ends more_word
  constant_counts m v = (refl, refl, length_more p.widths m, refl)

  -- an operator: one word and one rule
  pub computed_counts : (o : Op) (k w a b s : ℕ) → ((computed_ends o k w a b s p).word ≡ length p.widths) × ((computed_ends o k w a b s p).width ≡ w)
      × (length (computed_ends o k w a b s p).draft.widths ≡ suc (length p.widths))
      × (length (computed_ends o k w a b s p).draft.rules ≡ suc (length p.rules))
  unfolding computed_ends more_word more_rule
  computed_counts o k w a b s = (refl, refl, length_more p.widths w, length_more p.rules _)

  -- a relation: one rule
  pub relation_counts : (ρ : Rule) → (length (more_rule ρ p).widths ≡ length p.widths) × (length (more_rule ρ p).rules ≡ suc (length p.rules))
  unfolding more_rule
  relation_counts ρ = (refl, length_more p.rules ρ)

  -- ---- what is lent

  -- a constant: an entry of a fixed word
  pub constant_stores : (m v : ℕ) → ProperDraft p → (stored_words (constant_ends m v p).draft ≡ stored_words p ++ word_entry m v v)
      × (stored_rules (constant_ends m v p).draft ≡ stored_rules p)
  unfolding constant_ends more_word stored_rules
  constant_stores m v h = (words_more p m v v h, refl)

  -- an operator: an entry of an open word, and that of the rule which computes it
  pub computed_stores : (o : Op) (k w a b s : ℕ) → ProperDraft p
      → (stored_words (computed_ends o k w a b s p).draft ≡ stored_words p ++ word_entry w 0 (2 ^ w - 1))
      × (stored_rules (computed_ends o k w a b s p).draft ≡ stored_rules p ++ rule_entry (computing_rule o k (length p.widths) a b s))
  unfolding computed_ends more_word more_rule stored_words stored_rules
  computed_stores o k w a b s h = (words_more p w 0 (2 ^ w - 1) h, rules_more p (computing_rule o k (length p.widths) a b s))

  -- a relation: the entry of its rule
  pub relation_stores : (ρ : Rule) → (stored_words (more_rule ρ p) ≡ stored_words p) × (stored_rules (more_rule ρ p) ≡ stored_rules p ++ rule_entry ρ)
  unfolding more_rule stored_words
  relation_stores ρ = (refl, rules_more p ρ)
