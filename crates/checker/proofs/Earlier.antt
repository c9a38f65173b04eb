-- What is asked before a demand of a word, of a rule or of the limit is met, where what goes before was OK.
use mathlib.Core.Path.{◌≡◌, refl, sym, subst, ◌∙◌}
use mathlib.Core.Logic.{⊎_elim}
use mathlib.Core.List.{List}
use Prim.Native.Nat.{ℕ, ◌≤◌, ◌<◌}
use native.Mathlib.Omega.{arith}
use Rattle.words.specs.Word.{Width, Bounded, bounded}
use Rattle.words.proofs.Single.{bounded_sound}
use Rattle.rules.specs.Kinds.{kind_of}
use Rattle.rules.specs.Rows.{Fitting}
use Rattle.rules.specs.Tight.{word}
use Rattle.rules.specs.ProperProblem.{KindNumber, Fields}
use Rattle.std.specs.Prelude.{Ok}
use Rattle.problem.specs.Lent.{word_count, width_at, lo_at, hi_at, rule_count, rule_at}
use Rattle.checker.specs.Demands.{Demand, SIZE, WIDTH, TABLE, KIND, FIELD, FIT, LIMIT, number, place, phase, Before, Sized, Met, most_guesses}
use Rattle.checker.specs.Tests.{is_width, is_kind, are_fields, is_fitting}
use Rattle.checker.specs.Refusal.{asks, word_refusal, rule_refusal}
use Rattle.checker.proofs.Firsts.{asks_ok, then_ok}
use Rattle.checker.proofs.TestsMet.{width_met, kind_met, fields_met, fitting_met}
use Rattle.checker.proofs.Orders.{phase_le, same_phase, not_self}

-- ---- a word and a rule that are OK

word_met : (ws : List ℕ) (i : ℕ) → word_refusal ws i ≡ Ok tt → Width (width_at ws i) × Bounded (width_at ws i) (lo_at ws i) (hi_at ws i)
unfolding word_refusal
word_met ws i e =
    let (w, b) = then_ok (asks (WIDTH i) (is_width (width_at ws i))) _ e in (
      width_met (width_at ws i) (asks_ok (WIDTH i) (is_width (width_at ws i)) w),
      bounded_sound _ _ _ (asks_ok (TABLE i) (bounded (width_at ws i) (lo_at ws i) (hi_at ws i)) b),
    )

rule_met : (ws bs : List ℕ) (n : ℕ) → rule_refusal ws bs n ≡ Ok tt
    → KindNumber (rule_at bs n).kind × Fields (word_count ws) (rule_at bs n)
    × Fitting (kind_of (rule_at bs n).kind) (λ p. width_at ws (word (rule_at bs n) p)) (rule_at bs n).k
unfolding rule_refusal
rule_met ws bs n e =
    let (k, e') = then_ok (asks (KIND n) (is_kind (rule_at bs n).kind)) _ e in
    let (f, t) = then_ok (asks (FIELD n) (are_fields (word_count ws) (rule_at bs n))) _ e' in (
      kind_met (rule_at bs n).kind (asks_ok (KIND n) (is_kind (rule_at bs n).kind) k),
      fields_met _ _ (asks_ok (FIELD n) (are_fields (word_count ws) (rule_at bs n)) f),
      fitting_met ws (rule_at bs n) (asks_ok (FIT n) (is_fitting ws (rule_at bs n)) t),
    )

module _ (limit : ℕ) (ws bs : List ℕ) (size : Sized ws bs) where
  -- ---- before a demand of word i

  pub before_word : (d : Demand) (i : ℕ) → phase d ≡ 1 → place d ≡ i → number d ≤ 5 → ((j : ℕ) → j < i → word_refusal ws j ≡ Ok tt)
      → (4 < number d → Width (width_at ws i)) → (e : Demand) → Before e d → Met limit ws bs e
  before_word d i p q m h w SIZE b = size
  before_word d i p q m h w (WIDTH j) b = λ l.
      ⊎_elim (λ k. (word_met ws j (h j (omega arith))).0) (λ k. subst (λ (x : ℕ). Width (width_at ws x)) (sym (k.0 ∙ q)) (w k.1)) (same_phase b (sym p))
  before_word d i p q m h w (TABLE j) b = λ l. ⊎_elim (λ k. (word_met ws j (h j (omega arith))).1) (λ k. absurd (omega arith)) (same_phase b (sym p))
  before_word d i p q m h w (KIND n) b = absurd (omega (arith, phase_le b))
  before_word d i p q m h w (FIELD n) b = absurd (omega (arith, phase_le b))
  before_word d i p q m h w (FIT n) b = absurd (omega (arith, phase_le b))
  before_word d i p q m h w LIMIT b = absurd (omega (arith, phase_le b))

  module _ (words : (i : ℕ) → i < word_count ws → word_refusal ws i ≡ Ok tt) where
    -- ---- before a demand of rule n

    pub before_rule : (d : Demand) (n : ℕ) → phase d ≡ 2 → place d ≡ n → number d ≤ 8 → ((j : ℕ) → j < n → rule_refusal ws bs j ≡ Ok tt)
        → (6 < number d → KindNumber (rule_at bs n).kind) → (7 < number d → Fields (word_count ws) (rule_at bs n))
        → (e : Demand) → Before e d → Met limit ws bs e
    before_rule d n p q m h k f SIZE b = size
    before_rule d n p q m h k f (WIDTH i) b = λ l. (word_met ws i (words i l)).0
    before_rule d n p q m h k f (TABLE i) b = λ l. (word_met ws i (words i l)).1
    before_rule d n p q m h k f (KIND j) b = λ l.
        ⊎_elim (λ o. (rule_met ws bs j (h j (omega arith))).0) (λ o. subst (λ (x : ℕ). KindNumber (rule_at bs x).kind) (sym (o.0 ∙ q)) (k o.1))
        (same_phase b (sym p))
    before_rule d n p q m h k f (FIELD j) b = λ l.
        ⊎_elim (λ o. (rule_met ws bs j (h j (omega arith))).1) (λ o. subst (λ (x : ℕ). Fields (word_count ws) (rule_at bs x)) (sym (o.0 ∙ q)) (f o.1))
        (same_phase b (sym p))
    before_rule d n p q m h k f (FIT j) b = λ l. ⊎_elim (λ o. (rule_met ws bs j (h j (omega arith))).2) (λ o. absurd (omega arith)) (same_phase b (sym p))
    before_rule d n p q m h k f LIMIT b = absurd (omega (arith, phase_le b))

    -- ---- where words and rules are OK

    module _ (rules : (n : ℕ) → n < rule_count bs → rule_refusal ws bs n ≡ Ok tt) where
      most_met : (e : Demand) → (e ≡ LIMIT → limit ≤ most_guesses) → Met limit ws bs e
      most_met SIZE h = size
      most_met (WIDTH i) h = λ l. (word_met ws i (words i l)).0
      most_met (TABLE i) h = λ l. (word_met ws i (words i l)).1
      most_met (KIND n) h = λ l. (rule_met ws bs n (rules n l)).0
      most_met (FIELD n) h = λ l. (rule_met ws bs n (rules n l)).1
      most_met (FIT n) h = λ l. (rule_met ws bs n (rules n l)).2
      most_met LIMIT h = h refl

      pub all_met : limit ≤ most_guesses → (e : Demand) → Met limit ws bs e
      all_met l e = most_met e (λ q. l)

      pub before_limit : (e : Demand) → Before e LIMIT → Met limit ws bs e
      before_limit e b = most_met e (λ q. absurd (not_self LIMIT (subst (λ (x : Demand). Before x LIMIT) q b)))
