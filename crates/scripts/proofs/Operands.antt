-- Terms made of operands that are made right: by an operator on one, on two, by bvsub and by ite.
use mathlib.Core.Path.{◌≡◌, refl, sym, ap, subst, ◌∙◌}
use mathlib.Core.List.{List}
use Prim.Native.Nat.{ℕ, ◌+◌, ◌-◌, ◌%◌, ◌^◌, ◌<◌}
use native.Mathlib.Omega.{arith}
use lib.ListN.{length}
use Rattle.words.specs.Word.{Width}
use Rattle.lists.specs.Lists.{at}
use Rattle.rules.specs.Kinds.{NOT, ADD, ITE}
use Rattle.rules.specs.SmtLib.{OfSize, bv2nat}
use Rattle.scripts.specs.Tree.{Unary, Binary, Term, unary, binary, bvsub, ite}
use Rattle.scripts.specs.Sizes.{unary_size, UnaryFits, binary_size, BinaryFits, size, Formed}
use Rattle.scripts.specs.Denotes.{unary_vector, vector}
use Rattle.scripts.specs.Denotes.{bvsub as subtracted}
use Rattle.scripts.specs.Draft.{Draft, SettingsOf}
use Rattle.scripts.specs.Making.{EndedTerm, unary_op, unary_k, binary_op, computed_ends, unary_ends, binary_ends, ite_ends, bvsub_ends}
use Rattle.scripts.proofs.Operators.{unary_vector_lem, binary_vector_lem, ite_vector, sub_vector}
use Rattle.scripts.proofs.Terms.{size_width, vector_sized}
use Rattle.scripts.proofs.ProperDraft.{ProperDraft}
use Rattle.scripts.proofs.Prefix.{Prefix, prefix_trans}
use Rattle.scripts.proofs.Grown.{Ready, Grown, grown_trans}
use Rattle.scripts.proofs.Closes.{row_widths, Closes}
use Rattle.scripts.proofs.Closing.{computed_grown, computed_there, computed_width, computed_value}
use Rattle.scripts.proofs.TermRight.{WordOf, TermRight, right_after, closed_right}
use Rattle.scripts.proofs.Closes.{unary_closes, binary_closes, ite_closes, not_closes, add_closes}

module _ (ws : List ℕ) (fine : (i : ℕ) → i < length ws → Width (at ws i)) (p : Draft) (r : Ready ws p) where
  -- a word's width, what its term denotes at that width, and its value
  module _ {t : Term} {x : ℕ} (f : Formed ws t) (h : WordOf ws t x p) where
    word_width : Width (at p.widths x)
    word_width = rw h.width (size_width ws fine t f)

    word_sized : (v : List ℕ) → OfSize (at p.widths x) (vector ws v t)
    word_sized v = subst (λ (k : ℕ). OfSize k (vector ws v t)) (sym h.width) (vector_sized ws v t f)

    word_read : (q : Draft) (v : List ℕ) → ProperDraft q → Prefix p q → SettingsOf q v → at v x ≡ bv2nat (at p.widths x) (vector ws v t)
    word_read q v proper l s = h.reads q v proper l s ∙ ap (λ (k : ℕ). bv2nat k (vector ws v t)) (sym h.width)

  unary_here : (u : Unary) (t : Term) (x : ℕ) → Formed ws (unary u t) → WordOf ws t x p → TermRight ws (unary u t) p (unary_ends u x (at p.widths x) p)
  unary_here u t x f a =
      closed_right (unary u t) (unary_op u) (unary_k u) (unary_size u (at p.widths x)) x 0 0 r
      (unary_closes p u x a.there (word_width f.0 a) fits) (ap (unary_size u) a.width)
      (λ q v h l s.
      unary_vector_lem u (row_widths p (unary_size u (at p.widths x)) x 0 0) (at v x) (at v 0) (at v 0) (vector ws v t)
      (word_width f.0 a) fits refl (word_sized f.0 a v) (word_read f.0 a q v h l s)
      ∙ ap (λ (k : ℕ). bv2nat (unary_size u k) (unary_vector u (unary_size u k) (vector ws v t))) a.width)
    where
      fits : UnaryFits u (at p.widths x)
      fits = rw a.width f.1

  -- the width on hand is that of the word
  pub unary_right : (u : Unary) (t : Term) (x m : ℕ) → m ≡ size ws t → Formed ws (unary u t) → WordOf ws t x p → TermRight ws (unary u t) p (unary_ends u x m p)
  unary_right u t x m e f a = subst (λ (k : ℕ). TermRight ws (unary u t) p (unary_ends u x k p)) (a.width ∙ sym e) (unary_here u t x f a)

  binary_here : (o : Binary) (s t : Term) (x y : ℕ) → Formed ws (binary o s t) → WordOf ws s x p → WordOf ws t y p
      → TermRight ws (binary o s t) p (binary_ends o x (at p.widths x) y (at p.widths y) p)
  binary_here o s t x y f a b =
      closed_right (binary o s t) (binary_op o) 0 (binary_size o (at p.widths x) (at p.widths y)) x y 0 r
      (binary_closes p o x y a.there b.there (word_width f.0 a) fits) (rw (a.width, b.width))
      (λ q v h l z.
      binary_vector_lem o (row_widths p (binary_size o (at p.widths x) (at p.widths y)) x y 0) (at v x) (at v y) (at v 0) (vector ws v s) (vector ws v t)
      fits refl (word_sized f.0 a v) (word_sized f.1 b v) (word_read f.0 a q v h l z) (word_read f.1 b q v h l z)
      ∙ rw (a.width, b.width))
    where
      fits : BinaryFits o (at p.widths x) (at p.widths y)
      fits = rw (a.width, b.width) f.2

  pub binary_right : (o : Binary) (s t : Term) (x m y n : ℕ) → m ≡ size ws s → n ≡ size ws t → Formed ws (binary o s t) → WordOf ws s x p → WordOf ws t y p
      → TermRight ws (binary o s t) p (binary_ends o x m y n p)
  binary_right o s t x m y n d e f a b =
      subst (λ (k : ℕ). TermRight ws (binary o s t) p (binary_ends o x k y n p)) (a.width ∙ sym d)
      (subst (λ (k : ℕ). TermRight ws (binary o s t) p (binary_ends o x (at p.widths x) y k p)) (b.width ∙ sym e) (binary_here o s t x y f a b))

  ite_here : (c s t : Term) (z x y : ℕ) → Formed ws (ite c s t) → WordOf ws c z p → WordOf ws s x p → WordOf ws t y p
      → TermRight ws (ite c s t) p (ite_ends z x (at p.widths x) y p)
  ite_here c s t z x y f k a b =
      closed_right (ite c s t) ITE 0 (at p.widths x) x y z r
      (ite_closes p z x y k.there a.there b.there (word_width f.1 a) same (k.width ∙ f.3)) a.width
      (λ q v h l i.
      ite_vector (row_widths p (at p.widths x) x y z) (at v x) (at v y) (at v z) (vector ws v s) (vector ws v t) (vector ws v c)
      refl same (k.width ∙ f.3) (word_sized f.1 a v) (word_sized f.2 b v) (word_sized f.0 k v)
      (word_read f.1 a q v h l i) (word_read f.2 b q v h l i) (word_read f.0 k q v h l i)
      ∙ ap (λ (n : ℕ). bv2nat n (vector ws v (ite c s t))) a.width)
    where
      same : at p.widths x ≡ at p.widths y
      same = a.width ∙ f.4 ∙ sym b.width

  pub ite_right : (c s t : Term) (z x m y : ℕ) → m ≡ size ws s → Formed ws (ite c s t) → WordOf ws c z p → WordOf ws s x p → WordOf ws t y p
      → TermRight ws (ite c s t) p (ite_ends z x m y p)
  ite_right c s t z x m y d f k a b =
      subst (λ (i : ℕ). TermRight ws (ite c s t) p (ite_ends z x i y p)) (a.width ∙ sym d) (ite_here c s t z x y f k a b)

  -- NOT(NOT x + y), three words
  module _ (s t : Term) (x y : ℕ) (f : Formed ws (bvsub s t)) (a : WordOf ws s x p) (b : WordOf ws t y p) where
    abbrev m : ℕ
    m = at p.widths x

    abbrev e₁ : EndedTerm
    e₁ = computed_ends NOT 0 m x 0 0 p

    abbrev e₂ : EndedTerm
    e₂ = computed_ends ADD 0 m e₁.word y 0 e₁.draft

    same : m ≡ at p.widths y
    same = a.width ∙ f.2 ∙ sym b.width

    closes₁ : Closes p NOT 0 m x 0 0
    closes₁ = not_closes p m x (word_width f.0 a) a.there refl

    grown₁ : Grown ws p e₁.draft
    grown₁ = computed_grown p NOT 0 m x 0 0 closes₁ r

    closes₂ : Closes e₁.draft ADD 0 m e₁.word y 0
    closes₂ =
        add_closes e₁.draft m e₁.word y (word_width f.0 a) (computed_there p NOT 0 m x 0 0 closes₁)
        (omega (arith, b.there, grown₁.begins.words)) (computed_width p NOT 0 m x 0 0 closes₁) (grown₁.begins.width y b.there ∙ sym same)

    grown₂ : Grown ws e₁.draft e₂.draft
    grown₂ = computed_grown e₁.draft ADD 0 m e₁.word y 0 closes₂ grown₁.ready

    closes₃ : Closes e₂.draft NOT 0 m e₂.word 0 0
    closes₃ =
        not_closes e₂.draft m e₂.word (word_width f.0 a)
        (computed_there e₁.draft ADD 0 m e₁.word y 0 closes₂) (computed_width e₁.draft ADD 0 m e₁.word y 0 closes₂)

    bvsub_here : TermRight ws (bvsub s t) p (bvsub_ends x m y p)
    bvsub_here =
        right_after (grown_trans grown₁ grown₂)
        (closed_right (bvsub s t) NOT 0 m e₂.word 0 0 grown₂.ready closes₃ a.width (λ q v h l z.
        let l₁ : Prefix e₁.draft q = prefix_trans grown₂.begins l in
        let l₀ : Prefix p q = prefix_trans grown₁.begins l₁ in
        let h₁ : at v e₁.word ≡ 2 ^ m - 1 - at v x = computed_value p NOT 0 m x 0 0 closes₁ q v l₁ z in
        let h₂ : at v e₂.word ≡ (at v e₁.word + at v y) % 2 ^ m = computed_value e₁.draft ADD 0 m e₁.word y 0 closes₂ q v l z in
        ap (λ (k : ℕ). 2 ^ m - 1 - k) (h₂ ∙ ap (λ (k : ℕ). (k + at v y) % 2 ^ m) h₁)
        ∙ sub_vector m (at v x) (at v y) (vector ws v s) (vector ws v t) (word_sized f.0 a v)
        (subst (λ (k : ℕ). OfSize k (vector ws v t)) (sym same) (word_sized f.1 b v)) (word_read f.0 a q v h l₀ z)
        (word_read f.1 b q v h l₀ z ∙ ap (λ (k : ℕ). bv2nat k (vector ws v t)) (sym same))
        ∙ ap (λ (k : ℕ). bv2nat k (subtracted k (vector ws v s) (vector ws v t))) a.width))

    pub bvsub_right : (n : ℕ) → n ≡ size ws s → TermRight ws (bvsub s t) p (bvsub_ends x n y p)
    bvsub_right n d = subst (λ (i : ℕ). TermRight ws (bvsub s t) p (bvsub_ends x i y p)) (a.width ∙ sym d) bvsub_here
