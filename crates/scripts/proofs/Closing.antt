-- What the closing bracket of an operator term adds: a word, open, and the rule that computes it.
use mathlib.Core.Path.{◌≡◌, refl, sym, subst, fun_ext, ◌∙◌}
use mathlib.Core.Logic.{◌≢◌, inr}
use mathlib.Core.List.{List, [], ◌∷◌, ◌++◌}
use Prim.Native.Nat.{ℕ, ◌-◌, ◌^◌, ◌<◌}
use native.Mathlib.Omega.{arith}
use lib.Dec.{T}
use lib.ListN.{length}
use lib.Pow.{pow_pos}
use Rattle.lists.specs.Lists.{at}
use Rattle.rules.specs.Kinds.{Place, R, A, B, S, Op, op}
use Rattle.rules.specs.Rows.{uses, Fitting}
use Rattle.rules.specs.Meaning.{result}
use Rattle.rules.specs.Tight.{Rule, word, rule, none_rule, HoldsAt}
use Rattle.rules.specs.ProperProblem.{ProperRule}
use Rattle.rules.specs.Inputs.{Computed}
use Rattle.rules.proofs.SmtLib.{result_small}
use Rattle.scripts.specs.Draft.{Draft, more_word, more_rule, computing_rule, SettingsOf}
use Rattle.scripts.specs.Making.{computed_ends}
use Rattle.lists.proofs.Snoc.{length_more, at_low, at_new}
use Rattle.scripts.proofs.ProperDraft.{ProperDraft, proper_word, proper_rule, value_small}
use Rattle.scripts.proofs.Prefix.{Prefix, prefix_trans, prefix_word, prefix_rule}
use Rattle.scripts.proofs.Carried.{word_carried, rule_carried}
use Rattle.scripts.proofs.Follows.{inputs_rule, inputs_word}
use Rattle.scripts.proofs.Grown.{Carried, Ready, Grown}
use Rattle.rules.proofs.KindNumbers.{kind_op, op_number_lem}
use Rattle.words.proofs.OpenWord.{zero_⊑, ⊑_mask}
use Rattle.scripts.proofs.Closes.{row_widths, Closes}

module _ (p : Draft) (o : Op) (k w a b s : ℕ) where
  abbrev ρ : Rule
  ρ = computing_rule o k (length p.widths) a b s

  pub computed_size : (computed_ends o k w a b s p).width ≡ w
  unfolding computed_ends
  computed_size = refl

  module _ (c : Closes p o k w a b s) where
    -- the widths at its places, in the draft with the new word
    widths_here : (q : Place) → at (p.widths ++ (w ∷ [])) (word ρ q) ≡ row_widths p w a b s q
    widths_here R = at_new p.widths w 0 (length p.widths) refl
    widths_here A = at_low p.widths w 0 a c.a_there
    widths_here B = at_low p.widths w 0 b c.b_there
    widths_here S = at_low p.widths w 0 s c.s_there

    there : (q : Place) → word ρ q < length (p.widths ++ (w ∷ []))
    there R = omega (arith, length_more p.widths w)
    there A = omega (arith, length_more p.widths w, c.a_there)
    there B = omega (arith, length_more p.widths w, c.b_there)
    there S = omega (arith, length_more p.widths w, c.s_there)

    unused : (q : Place) → ¬ T (uses (op o) q) → word ρ q ≡ 0
    unused R n = absurd (n tt)
    unused A n = absurd (n tt)
    unused B n = c.b_unused n
    unused S n = c.s_unused n

    rule_proper : ProperRule (p.widths ++ (w ∷ [])) ρ
    rule_proper = record {
      kind = op_number_lem o;
      fields = record { used = λ q u. there q; unused = rw (kind_op o) unused; unused_k = rw (kind_op o) c.k_unused };
      fit = rw (kind_op o) (subst (λ (f : Place → ℕ). Fitting (op o) f k) (sym (fun_ext widths_here)) c.fit);
    }

    computed_proper : ProperDraft p → ProperDraft (computed_ends o k w a b s p).draft
    unfolding computed_ends more_word
    computed_proper h =
        let new = proper_word w 0 (2 ^ w - 1) h c.width (record { under = zero_⊑ (2 ^ w - 1); below = omega (arith, pow_pos w) }) in
        proper_rule ρ new rule_proper c.k_byte

    prefix_computed : ProperDraft p → Prefix p (computed_ends o k w a b s p).draft
    unfolding computed_ends
    prefix_computed h = prefix_trans (prefix_word w 0 (2 ^ w - 1) h) (prefix_rule (more_word w 0 (2 ^ w - 1) p) ρ)

    -- a rule over lower-numbered words
    computed_by : (rs : List Rule) → Computed (rs ++ (ρ ∷ [])) (length p.widths)
    computed_by rs = record {
      number = length rs;
      listed = omega (arith, length_more rs ρ);
      computes = rw (at_new rs ρ none_rule (length rs) refl) (record { computing = rw (kind_op o) tt; result = refl; below = λ q u n. lower q n });
    }
      where
        lower : (q : Place) → q ≢ R → word ρ q < length p.widths
        lower R n = absurd (n refl)
        lower A n = c.a_there
        lower B n = c.b_there
        lower S n = c.s_there

    -- what it computes of settings is within the width
    module _ (h : ProperDraft p) (v : List ℕ) (t : SettingsOf p v) where
      value : ℕ
      value = result o (row_widths p w a b s) k (at v a) (at v b) (at v s)

      value_fits : value < 2 ^ w
      unfolding value
      value_fits =
          result_small o (row_widths p w a b s) k (at v a) (at v b) (at v s) c.fit
          (value_small v h t a) (λ u. value_small v h t b) (λ u. value_small v h t s)

      carried : Carried p (computed_ends o k w a b s p).draft v
      unfolding computed_ends value more_word
      carried = record {
        values = v ++ (value ∷ []);
        settings = rule_carried ρ (word_carried w 0 (2 ^ w - 1) value h t (zero_⊑ value) (⊑_mask w value value_fits)) holds;
        same = λ i l. at_low v value 0 i (omega (arith, t.keeps.size, h.table.los));
      }
        where
          long : length v ≡ length p.widths
          long = t.keeps.size ∙ h.table.los

          holds : HoldsAt (p.widths ++ (w ∷ [])) (v ++ (value ∷ [])) ρ
          holds =
              rw (kind_op o, fun_ext widths_here)
              (cc (
                at_new v value 0 (length p.widths) (sym long),
                at_low v value 0 a (omega (arith, c.a_there)),
                at_low v value 0 b (omega (arith, c.b_there)),
                at_low v value 0 s (omega (arith, c.s_there)),
              ))

    pub computed_grown : {ws : List ℕ} → Ready ws p → Grown ws p (computed_ends o k w a b s p).draft
    unfolding computed_ends more_word more_rule
    computed_grown r = record {
      ready = record {
        proper = computed_proper r.proper;
        inputs = inputs_word (p.rules ++ (ρ ∷ [])) w 0 (2 ^ w - 1) r.proper (inputs_rule ρ r.inputs) (inr (computed_by p.rules));
        begun = prefix_trans r.begun (prefix_computed r.proper);
      };
      begins = prefix_computed r.proper;
      on = λ v t. carried r.proper v t;
    }

    pub computed_there : (computed_ends o k w a b s p).word < length (computed_ends o k w a b s p).draft.widths
    unfolding computed_ends more_word more_rule
    computed_there = omega (arith, length_more p.widths w)

    pub computed_width : at (computed_ends o k w a b s p).draft.widths (computed_ends o k w a b s p).word ≡ w
    unfolding computed_ends more_word more_rule
    computed_width = at_new p.widths w 0 (length p.widths) refl

    -- in settings of all that the draft grows into, the word is what its rule computes
    pub computed_value : (q : Draft) (v : List ℕ) → Prefix (computed_ends o k w a b s p).draft q → SettingsOf q v
        → at v (computed_ends o k w a b s p).word ≡ result o (row_widths p w a b s) k (at v a) (at v b) (at v s)
    unfolding computed_ends more_word more_rule
    computed_value q v f t =
        let n = length p.rules in
        let l : n < length (p.rules ++ (ρ ∷ [])) = omega (arith, length_more p.rules ρ) in
        let e : rule q.rules n ≡ ρ = f.listed n l ∙ at_new p.rules ρ none_rule n refl in
        let h : HoldsAt q.widths v ρ = subst (λ x. HoldsAt q.widths v x) e (t.holds.each n (omega (arith, l, f.rules))) in
        rw (kind_op o, fun_ext (λ x. f.width (word ρ x) (there x) ∙ widths_here x)) at h
