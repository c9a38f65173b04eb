-- A draft and what it grows into: its words and rules stay, in their places.
use mathlib.Core.Path.{◌≡◌, refl, ◌∙◌}
use Prim.Native.Nat.{ℕ, ◌≤◌, ◌<◌}
use native.Mathlib.Nat.{le_refl, le_trans}
use native.Mathlib.Omega.{arith}
use lib.ListN.{length}
use Rattle.lists.specs.Lists.{at}
use Rattle.rules.specs.Tight.{Rule, rule, none_rule}
use Rattle.scripts.specs.Draft.{Draft, more_word, more_rule}
use Rattle.lists.proofs.Snoc.{length_more, at_low}
use Rattle.scripts.proofs.ProperDraft.{ProperDraft}

-- q begins as p
pub record Prefix (p q : Draft) : Type 0 where
  pub words : length p.widths ≤ length q.widths
  pub rules : length p.rules ≤ length q.rules
  pub width : (i : ℕ) → i < length p.widths → at q.widths i ≡ at p.widths i
  pub low : (i : ℕ) → i < length p.widths → at q.table.lo i ≡ at p.table.lo i
  pub top : (i : ℕ) → i < length p.widths → at q.table.hi i ≡ at p.table.hi i
  pub listed : (n : ℕ) → n < length p.rules → rule q.rules n ≡ rule p.rules n

pub prefix_refl : (p : Draft) → Prefix p p
prefix_refl p = record {
  words = le_refl (length p.widths);
  rules = le_refl (length p.rules);
  width = λ i l. refl;
  low = λ i l. refl;
  top = λ i l. refl;
  listed = λ n l. refl;
}

pub prefix_trans : {p q r : Draft} → Prefix p q → Prefix q r → Prefix p r
prefix_trans a b = record {
  words = le_trans a.words b.words;
  rules = le_trans a.rules b.rules;
  width = λ i l. b.width i (omega (arith, a.words)) ∙ a.width i l;
  low = λ i l. b.low i (omega (arith, a.words)) ∙ a.low i l;
  top = λ i l. b.top i (omega (arith, a.words)) ∙ a.top i l;
  listed = λ n l. b.listed n (omega (arith, a.rules)) ∙ a.listed n l;
}

pub prefix_word : {p : Draft} (w lo hi : ℕ) → ProperDraft p → Prefix p (more_word w lo hi p)
unfolding more_word
prefix_word {p} w lo hi h = record {
  words = omega (arith, length_more p.widths w);
  rules = le_refl (length p.rules);
  width = λ i l. at_low p.widths w 0 i l;
  low = λ i l. at_low p.table.lo lo 0 i (omega (arith, h.table.los));
  top = λ i l. at_low p.table.hi hi 0 i (omega (arith, h.table.his));
  listed = λ n l. refl;
}

pub prefix_rule : (p : Draft) (ρ : Rule) → Prefix p (more_rule ρ p)
unfolding more_rule
prefix_rule p ρ = record {
  words = le_refl (length p.widths);
  rules = omega (arith, length_more p.rules ρ);
  width = λ i l. refl;
  low = λ i l. refl;
  top = λ i l. refl;
  listed = λ n l. at_low p.rules ρ none_rule n l;
}
