-- Settings of a draft carried over to a word more, within its bounds, and to a rule more that holds.
use mathlib.Core.Path.{◌≡◌, sym}
use mathlib.Core.List.{List, [], ◌∷◌, ◌++◌}
use Prim.Native.Nat.{ℕ}
use native.Mathlib.Omega.{arith}
use lib.ListN.{length}
use Rattle.words.specs.Bits.{◌⊑◌}
use Rattle.rules.specs.Tight.{Rule, word, rule, none_rule, HoldsAt}
use Rattle.scripts.specs.Draft.{Draft, more_word, more_rule, SettingsOf}
use Rattle.lists.proofs.Snoc.{length_more, at_low, each_more, triples_more}
use Rattle.problem.proofs.Readings.{words_below}
use Rattle.scripts.proofs.ProperDraft.{ProperDraft, holds_same}

pub word_carried : {p : Draft} {v : List ℕ} (w lo hi x : ℕ) → ProperDraft p → SettingsOf p v → lo ⊑ x → x ⊑ hi
    → SettingsOf (more_word w lo hi p) (v ++ (x ∷ []))
unfolding more_word
word_carried {p} {v} w lo hi x h s a b = record {
  keeps = record {
    size = omega (arith, length_more v x, length_more p.table.lo lo, s.keeps.size);
    from = triples_more (λ l y z. l ⊑ y) p.table.lo v v lo x x s.keeps.size s.keeps.size s.keeps.from a;
    to = triples_more (λ u y z. y ⊑ u) p.table.hi v v hi x x same_top same_top s.keeps.to b;
  };
  holds = record {
    each = λ n l.
        holds_same p.widths (p.widths ++ (w ∷ [])) v (v ++ (x ∷ [])) (rule p.rules n)
        (λ q. sym (at_low p.widths w 0 (word (rule p.rules n) q) (words_below (h.each n l) q)))
        (λ q. sym (at_low v x 0 (word (rule p.rules n) q) (omega (arith, words_below (h.each n l) q, s.keeps.size, h.table.los))))
        (s.holds.each n l);
  };
}
  where
    same_top : length v ≡ length p.table.hi
    same_top = omega (arith, s.keeps.size, h.table.los, h.table.his)

pub rule_carried : {p : Draft} {v : List ℕ} (ρ : Rule) → SettingsOf p v → HoldsAt p.widths v ρ → SettingsOf (more_rule ρ p) v
unfolding more_rule
rule_carried {p} {v} ρ s h = record { keeps = s.keeps; holds = record { each = each_more (HoldsAt p.widths v) p.rules ρ none_rule s.holds.each h } }
