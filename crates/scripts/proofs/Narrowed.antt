-- What an assert adds to a draft: settings go on just where the assert is true.
use mathlib.Core.Path.{◌≡◌, refl, sym, ap, subst, ◌∙◌}
use mathlib.Core.Logic.{◌↔◌}
use mathlib.Core.List.{List, [], ◌∷◌, ◌++◌}
use Prim.Native.Nat.{ℕ, ◌<◌}
use native.Mathlib.Omega.{arith}
use lib.ListN.{length}
use Rattle.words.specs.Word.{Width}
use Rattle.lists.specs.Lists.{at}
use Rattle.rules.specs.SmtLib.{OfSize, bv2nat}
use Rattle.rules.specs.Tight.{Rule, rule, none_rule, HoldsAt}
use Rattle.scripts.specs.Tree.{Term, Relation, Assert, relation, not, and}
use Rattle.scripts.specs.Sizes.{size, SameSize, FormedAssert, FormedAll}
use Rattle.scripts.specs.Denotes.{vector, Related, True, AllTrue}
use Rattle.scripts.specs.Draft.{Draft, start, more_rule, SettingsOf}
use Rattle.scripts.specs.Making.{relation_rule, opposite, term_ends, relation_ends, assert_ends, asserts_end}
use Rattle.scripts.proofs.Terms.{vector_sized, vector_same, true_same, all_same}
use Rattle.lists.proofs.Snoc.{length_more, at_new}
use Rattle.scripts.proofs.ProperDraft.{ProperDraft, proper_rule, value_small}
use Rattle.scripts.proofs.Prefix.{Prefix, prefix_refl, prefix_trans, prefix_rule}
use Rattle.scripts.proofs.Carried.{rule_carried}
use Rattle.scripts.proofs.Follows.{inputs_rule}
use Rattle.scripts.proofs.Grown.{Carried, carried_refl, carried_trans, Ready, grown_trans}
use Rattle.scripts.proofs.TermRight.{WordOf, word_later}
use Rattle.scripts.proofs.Made.{term_right}
use Rattle.scripts.proofs.Relations.{related_numbers, opposite_numbers, rule_numbers, relation_proper, relation_amount}

-- q is p with more words and rules: settings of p for which C is true go on, and for all settings of what q grows into C is true
pub record Narrowed (ws : List ℕ) (C : List ℕ → Type 0) (p q : Draft) : Type 0 where
  pub ready : Ready ws q
  pub begins : Prefix p q
  pub on : (v : List ℕ) → SettingsOf p v → C v → Carried p q v
  pub says : (r : Draft) (v : List ℕ) → ProperDraft r → Prefix q r → SettingsOf r v → C v

-- the same values of the declared words
abbrev Alike : List ℕ → List ℕ → List ℕ → Type 0
Alike ws v v' = (i : ℕ) → i < length ws → at v i ≡ at v' i

-- settings carried on have the same values of the declared words
pub carried_alike : {ws : List ℕ} {p q : Draft} {v : List ℕ} → Ready ws p → (c : Carried p q v) → (i : ℕ) → i < length ws → at v i ≡ at c.values i
unfolding start
carried_alike r c i l = sym (c.same i (omega (arith, r.begun.words)))

pub narrowed_trans : {ws : List ℕ} {C D : List ℕ → Type 0} {p q r : Draft} → Ready ws p → ((v v' : List ℕ) → Alike ws v v' → D v → D v')
    → Narrowed ws C p q → Narrowed ws D q r → Narrowed ws (λ v. C v × D v) p r
narrowed_trans ready move a b = record {
  ready = b.ready;
  begins = prefix_trans a.begins b.begins;
  on = λ v s t.
      let c = a.on v s t.0 in
      carried_trans a.begins c (b.on c.values c.settings (move v c.values (carried_alike ready c) t.1));
  says = λ x v h l s. (a.says x v h (prefix_trans b.begins l) s, b.says x v h l s);
}

narrowed_iff : {ws : List ℕ} {C D : List ℕ → Type 0} {p q : Draft} → ((v : List ℕ) → D v ↔ C v) → Narrowed ws C p q → Narrowed ws D p q
narrowed_iff e a = record {
  ready = a.ready;
  begins = a.begins;
  on = λ v s d. a.on v s ((e v).0 d);
  says = λ x v h l s. (e v).1 (a.says x v h l s);
}

-- ---- the rule of a relation

module _ (ws : List ℕ) (p : Draft) (r : Ready ws p) (s t : Term) (x y : ℕ) (f : SameSize ws s t) (a : WordOf ws s x p) (b : WordOf ws t y p) where
  same_width : at p.widths x ≡ at p.widths y
  same_width = a.width ∙ f.2 ∙ sym b.width

  -- in settings of what p grows into the rule holds just where the relation is true
  relation_true : (c : Relation) (q : Draft) (v : List ℕ) → ProperDraft q → Prefix p q → SettingsOf q v
      → HoldsAt q.widths v (relation_rule c x y) ↔ Related c (size ws s) (vector ws v s) (vector ws v t)
  relation_true c q v h l z =
      let e = rule_numbers c q.widths v x y (l.width x a.there ∙ same_width ∙ sym (l.width y b.there)) (value_small v h z y) in
      let g = related_numbers c (size ws s) (vector ws v s) (vector ws v t) (vector_sized ws v s f.0) (rw f.2 (vector_sized ws v t f.1)) in
      let i : at v x ≡ bv2nat (size ws s) (vector ws v s) = a.reads q v h l z in
      let j : at v y ≡ bv2nat (size ws s) (vector ws v t) = b.reads q v h l z ∙ ap (λ (k : ℕ). bv2nat k (vector ws v t)) (sym f.2) in
      (λ k. g.1 (rw (i, j) at (e.0 k)), λ k. e.1 (rw (i, j) (g.0 k)))

  relation_narrowed : (c : Relation) → Narrowed ws (λ v. Related c (size ws s) (vector ws v s) (vector ws v t)) p (more_rule (relation_rule c x y) p)
  unfolding more_rule
  relation_narrowed c = record {
    ready = record {
      proper = proper_rule ρ r.proper (relation_proper c p.widths x y a.there b.there same_width) (relation_amount c x y);
      inputs = inputs_rule ρ r.inputs;
      begun = prefix_trans r.begun (prefix_rule p ρ);
    };
    begins = prefix_rule p ρ;
    on = λ v z k.
        record { values = v; settings = rule_carried ρ z ((relation_true c p v r.proper (prefix_refl p) z).1 k); same = λ i l. refl };
    says = λ q v h l z. (relation_true c q v h (prefix_trans (prefix_rule p ρ) l) z).0 (listed q v l z);
  }
    where
      ρ : Rule
      ρ = relation_rule c x y

      listed : (q : Draft) (v : List ℕ) → Prefix (more_rule (relation_rule c x y) p) q → SettingsOf q v → HoldsAt q.widths v (relation_rule c x y)
      listed q v l z =
          let n = length p.rules in
          let k : n < length (p.rules ++ (ρ ∷ [])) = omega (arith, length_more p.rules ρ) in
          let e : rule q.rules n ≡ ρ = l.listed n k ∙ at_new p.rules ρ none_rule n refl in
          subst (λ i. HoldsAt q.widths v i) e (z.holds.each n (omega (arith, k, l.rules)))

-- ---- asserts

module _ (ws : List ℕ) (fine : (i : ℕ) → i < length ws → Width (at ws i)) where
  related_narrowed : (c : Relation) (s t : Term) → SameSize ws s t → (p : Draft) → Ready ws p
      → Narrowed ws (λ v. Related c (size ws s) (vector ws v s) (vector ws v t)) p (relation_ends c (term_ends s p) (term_ends t))
  related_narrowed c s t f p r =
      let a = term_right ws fine s f.0 p r in
      let b = term_right ws fine t f.1 (term_ends s p).draft a.grown.ready in
      let g = grown_trans a.grown b.grown in
      let h = relation_narrowed ws _ b.grown.ready s t _ _ f (word_later b.grown.begins a.word) b.word c in
      record {
        ready = h.ready;
        begins = prefix_trans g.begins h.begins;
        on = λ v z k.
            let x = g.on v z in
            let e = carried_alike r x in
            carried_trans g.begins x
            (h.on x.values x.settings (rw (vector_same ws v x.values e s f.0, vector_same ws v x.values e t f.1) at k));
        says = h.says;
      }

  -- the negation of a relation is its opposite
  opposite_related : (c : Relation) (s t : Term) → SameSize ws s t → (v : List ℕ)
      → (¬ Related c (size ws s) (vector ws v s) (vector ws v t)) ↔ Related (opposite c) (size ws s) (vector ws v s) (vector ws v t)
  opposite_related c s t f v =
      let sa = vector_sized ws v s f.0 in
      let sb : OfSize (size ws s) (vector ws v t) = rw f.2 (vector_sized ws v t f.1) in
      let e = related_numbers c (size ws s) (vector ws v s) (vector ws v t) sa sb in
      let g = related_numbers (opposite c) (size ws s) (vector ws v s) (vector ws v t) sa sb in
      let o = opposite_numbers c (bv2nat (size ws s) (vector ws v s)) (bv2nat (size ws s) (vector ws v t)) in
      (λ n. g.1 (o.0 (λ k. n (e.1 k))), λ k n. o.1 (g.0 k) (e.0 n))

  assert_narrowed : (a : Assert) → FormedAssert ws a → (p : Draft) → Ready ws p → Narrowed ws (λ v. True ws v a) p (assert_ends a p)
  unfolding assert_ends
  assert_narrowed (relation c s t) f p r = related_narrowed c s t f p r
  assert_narrowed (not c s t) f p r = narrowed_iff (opposite_related c s t f) (related_narrowed (opposite c) s t f p r)
  assert_narrowed (and a b) f p r =
      let h = assert_narrowed a f.0 p r in
      narrowed_trans r (λ v v' e x. true_same ws v v' e b f.1 x) h (assert_narrowed b f.1 (assert_ends a p) h.ready)

  pub all_narrowed : (l : List Assert) → FormedAll ws l → (p : Draft) → Ready ws p → Narrowed ws (λ v. AllTrue ws v l) p (asserts_end l p)
  unfolding asserts_end
  all_narrowed [] f p r = record { ready = r; begins = prefix_refl p; on = λ v z k. carried_refl z; says = λ q v h l z. tt }
  all_narrowed (a ∷ l) f p r =
      let h = assert_narrowed a f.0 p r in
      narrowed_trans r (λ v v' e x. all_same ws v v' e l f.1 x) h (all_narrowed l f.1 (assert_ends a p) h.ready)
