-- Proper drafts: a proper table, and proper rules whose k is a byte, whatever their number; they stay so with a word more and with a rule more.
use mathlib.Core.Path.{◌≡◌, sym, subst, fun_ext}
use mathlib.Core.List.{List, [], ◌∷◌, ◌++◌}
use Prim.Native.Nat.{ℕ, ◌^◌, ◌<◌}
use native.Mathlib.Omega.{arith}
use lib.ListN.{length}
use Rattle.words.specs.Word.{Width, Bounded}
use Rattle.lists.specs.Lists.{at}
use Rattle.words.proofs.Order.{⊑_le}
use Rattle.rules.specs.Kinds.{Place, kind_of}
use Rattle.rules.specs.Rows.{Fitting}
use Rattle.rules.specs.Tight.{Rule, word, rule, none_rule, HoldsAt}
use Rattle.rules.specs.Meaning.{Holds}
use Rattle.rules.specs.Proper.{Proper}
use Rattle.rules.specs.ProperProblem.{ProperRule}
use Rattle.problem.proofs.Readings.{words_below}
use Rattle.scripts.specs.Draft.{Draft, more_word, more_rule, SettingsOf}
use Rattle.lists.proofs.Snoc.{length_more, at_low, each_more, triples_more}

pub record ProperDraft (p : Draft) : Type 0 where
  pub table : Proper p.widths p.table
  pub each : (n : ℕ) → n < length p.rules → ProperRule p.widths (rule p.rules n)
  pub amounts : (n : ℕ) → n < length p.rules → (rule p.rules n).k < 256

-- ---- a proper rule speaks of words that are there

-- it stays proper with a word more
pub rule_more : {w : List ℕ} {ρ : Rule} (x : ℕ) → ProperRule w ρ → ProperRule (w ++ (x ∷ [])) ρ
rule_more {w} {ρ} x h = record {
  kind = h.kind;
  fields = record {
    used = λ p u. omega (arith, length_more w x, h.fields.used p u);
    unused = h.fields.unused;
    unused_k = h.fields.unused_k;
  };
  fit = subst (λ (f : Place → ℕ). Fitting (kind_of ρ.kind) f ρ.k) (fun_ext (λ p. sym (at_low w x 0 (word ρ p) (words_below h p)))) h.fit;
}

-- and says the same of the values where widths and values at its words are the same
pub holds_same : (w w' v v' : List ℕ) (ρ : Rule) → ((p : Place) → at w (word ρ p) ≡ at w' (word ρ p)) → ((p : Place) → at v (word ρ p) ≡ at v' (word ρ p))
    → HoldsAt w v ρ → HoldsAt w' v' ρ
holds_same w w' v v' ρ e f h =
    subst (λ (g : Place → ℕ). Holds (kind_of ρ.kind) g ρ.k (λ p. at v' (word ρ p))) (fun_ext e)
    (subst (λ (g : Place → ℕ). Holds (kind_of ρ.kind) (λ p. at w (word ρ p)) ρ.k g) (fun_ext f) h)

-- ---- one word more, one rule more

pub proper_word : {p : Draft} (w lo hi : ℕ) → ProperDraft p → Width w → Bounded w lo hi → ProperDraft (more_word w lo hi p)
unfolding more_word
proper_word {p} w lo hi h width b = record {
  table = record {
    los = omega (arith, length_more p.widths w, length_more p.table.lo lo, h.table.los);
    his = omega (arith, length_more p.widths w, length_more p.table.hi hi, h.table.his);
    width = each_more Width p.widths w 0 h.table.width width;
    bounded = triples_more Bounded p.widths p.table.lo p.table.hi w lo hi h.table.los h.table.his h.table.bounded b;
  };
  each = λ n l. rule_more w (h.each n l);
  amounts = h.amounts;
}

pub proper_rule : {p : Draft} (ρ : Rule) → ProperDraft p → ProperRule p.widths ρ → ρ.k < 256 → ProperDraft (more_rule ρ p)
unfolding more_rule
proper_rule {p} ρ h r k = record {
  table = h.table;
  each = each_more (ProperRule p.widths) p.rules ρ none_rule h.each r;
  amounts = each_more (λ x. x.k < 256) p.rules ρ none_rule h.amounts k;
}

-- ---- values keep to their widths

pub value_small : {p : Draft} (v : List ℕ) → ProperDraft p → SettingsOf p v → (i : ℕ) → at v i < 2 ^ at p.widths i
value_small {p} v h s i = omega (arith, ⊑_le (at v i) (at p.table.hi i) (s.keeps.to i), (h.table.bounded i).below)
