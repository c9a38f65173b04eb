-- The promise of the check: OK is a proper problem, a refusal is the first demand that is not met, and no other answer is right.
use mathlib.Core.Path.{◌≡◌, refl, sym, subst, ◌∙◌}
use mathlib.Core.Bool.{Bool, true, false}
use mathlib.Core.List.{List}
use Prim.Native.Nat.{ℕ, ◌<◌}
use native.Mathlib.Omega.{arith}
use lib.Dec.{T, leb, leb→le, le→leb}
use Rattle.words.specs.Word.{bounded}
use Rattle.words.proofs.Single.{bounded_complete}
use Rattle.std.specs.Prelude.{Ok, Err}
use Rattle.checker.specs.declared.refusal.Refusal.{Refusal}
use Rattle.checker.specs.Refusals.{refusal_of}
use Rattle.problem.specs.Lent.{word_count, width_at, lo_at, hi_at, rule_count, rule_at}
use Rattle.checker.specs.Demands.{Demand, SIZE, WIDTH, TABLE, KIND, FIELD, FIT, LIMIT, Sized, most_guesses}
use Rattle.checker.specs.Tests.{sized, is_width, is_kind, are_fields, is_fitting}
use Rattle.checker.specs.Refusal.{Checked, asks, ◌then◌, first_of, word_refusal, rule_refusal, refusal, refusal_with}
use Rattle.checker.specs.Promise.{Fine, FirstUnmet, Right, ok, refused}
use Rattle.checker.proofs.Firsts.{refused_not_ok, then_ok, run_ok, run_refused}
use Rattle.checker.proofs.TestsMet.{sized_met, met_sized, width_met, met_width, kind_met, met_kind, fields_met, met_fields, met_fitting}
use Rattle.checker.proofs.Orders.{size_first, same_key}
use Rattle.checker.proofs.Refusals.{same_refusal}
use Rattle.checker.proofs.FineMet.{met_fine, fine_met}
use Rattle.checker.proofs.Earlier.{before_word, before_rule, before_limit, all_met}

-- a test that failed refutes what would make it pass
fails : {P : Type 0} (b : Bool) → b ≡ false → (P → T b) → ¬ P
fails b e h p = subst T e (h p)

passed : (b : Bool) → b ≡ true → T b
passed b e = subst T (sym e) tt

module _ (limit : ℕ) (ws bs : List ℕ) where
  -- the refusal of d is right where d is the first that is not met
  as_refused : {r : Refusal} (d : Demand) → ◌≡◌ {A = Checked} (Err (refusal_of d)) (Err r) → FirstUnmet limit ws bs d → Right limit ws bs (Err r)
  as_refused {r} d e u = refused {r = r} d (cc) u

  module _ (size : Sized ws bs) where
    word_right : {r : Refusal} (i : ℕ) → i < word_count ws → ((j : ℕ) → j < i → word_refusal ws j ≡ Ok tt) → word_refusal ws i ≡ Err r
        → Right limit ws bs (Err r)
    unfolding word_refusal
    word_right {r} i l h e = go (is_width (width_at ws i)) (bounded (width_at ws i) (lo_at ws i) (hi_at ws i)) refl refl e
      where
        go : (a b : Bool) → is_width (width_at ws i) ≡ a → bounded (width_at ws i) (lo_at ws i) (hi_at ws i) ≡ b
            → asks (WIDTH i) a then asks (TABLE i) b ≡ Err r → Right limit ws bs (Err r)
        go false b ea eb e =
            as_refused (WIDTH i) e (record {
              unmet = λ m. fails _ ea (met_width (width_at ws i)) (m l);
              earlier = before_word limit ws bs size (WIDTH i) i refl refl (omega arith) h (λ k. absurd (omega arith));
            })
        go true false ea eb e =
            as_refused (TABLE i) e (record {
              unmet = λ m. fails _ eb (bounded_complete _ _ _) (m l);
              earlier = before_word limit ws bs size (TABLE i) i refl refl (omega arith) h (λ k. width_met (width_at ws i) (passed _ ea));
            })
        go true true ea eb e = absurd (refused_not_ok refl (sym e))

    module _ (words : (i : ℕ) → i < word_count ws → word_refusal ws i ≡ Ok tt) where
      rule_right : {r : Refusal} (n : ℕ) → n < rule_count bs → ((j : ℕ) → j < n → rule_refusal ws bs j ≡ Ok tt) → rule_refusal ws bs n ≡ Err r
          → Right limit ws bs (Err r)
      unfolding rule_refusal
      rule_right {r} n l h e =
          go (is_kind (rule_at bs n).kind) (are_fields (word_count ws) (rule_at bs n)) (is_fitting ws (rule_at bs n)) refl refl refl e
        where
          go : (a b c : Bool) → is_kind (rule_at bs n).kind ≡ a → are_fields (word_count ws) (rule_at bs n) ≡ b → is_fitting ws (rule_at bs n) ≡ c
              → asks (KIND n) a then asks (FIELD n) b then asks (FIT n) c ≡ Err r → Right limit ws bs (Err r)
          go false b c ea eb ec e =
              as_refused (KIND n) e (record {
                unmet = λ m. fails _ ea (met_kind (rule_at bs n).kind) (m l);
                earlier = before_rule limit ws bs size words (KIND n) n refl refl (omega arith) h (λ k. absurd (omega arith)) (λ k. absurd (omega arith));
              })
          go true false c ea eb ec e =
              as_refused (FIELD n) e (record {
                unmet = λ m. fails _ eb (met_fields (word_count ws) (rule_at bs n)) (m l);
                earlier = before_rule limit ws bs size words (FIELD n) n refl refl (omega arith) h
                    (λ k. kind_met (rule_at bs n).kind (passed _ ea)) (λ k. absurd (omega arith));
              })
          go true true false ea eb ec e =
              as_refused (FIT n) e (record {
                unmet = λ m. fails _ ec (met_fitting ws (rule_at bs n)) (m l);
                earlier = before_rule limit ws bs size words (FIT n) n refl refl (omega arith) h
                    (λ k. kind_met (rule_at bs n).kind (passed _ ea)) (λ k. fields_met (word_count ws) (rule_at bs n) (passed _ eb));
              })
          go true true true ea eb ec e = absurd (refused_not_ok refl (sym e))

      module _ (rules : (n : ℕ) → n < rule_count bs → rule_refusal ws bs n ≡ Ok tt) where
        limit_right : (b : Bool) → leb limit most_guesses ≡ b → Right limit ws bs (asks LIMIT b)
        limit_right true e = ok (met_fine limit ws bs (all_met limit ws bs size words rules (leb→le _ _ (passed _ e))))
        limit_right false e =
            as_refused LIMIT refl (record {
              unmet = fails (leb limit most_guesses) e (le→leb limit most_guesses);
              earlier = before_limit limit ws bs size words rules;
            })

      rules_right : (x : Checked) → first_of (rule_count bs) (rule_refusal ws bs) ≡ x → Right limit ws bs (x then asks LIMIT (leb limit most_guesses))
      rules_right (Ok tt) e = limit_right (run_ok _ _ e) (leb limit most_guesses) refl
      rules_right (Err r) e = let (n, l, q, h) = run_refused _ _ e in rule_right n l h q

    words_right : (x : Checked) → first_of (word_count ws) (word_refusal ws) ≡ x
        → Right limit ws bs ((x then first_of (rule_count bs) (rule_refusal ws bs)) then asks LIMIT (leb limit most_guesses))
    words_right (Ok tt) e = rules_right (run_ok _ _ e) (first_of (rule_count bs) (rule_refusal ws bs)) refl
    words_right (Err r) e = let (i, l, q, h) = run_refused _ _ e in word_right i l h q

  -- what the check answers is right
  pub check_right : Right limit ws bs (refusal_with limit ws bs)
  unfolding refusal_with refusal
  check_right = go (sized ws bs) refl
    where
      go : (b : Bool) → sized ws bs ≡ b
          → Right limit ws bs
          ((asks SIZE b then first_of (word_count ws) (word_refusal ws) then first_of (rule_count bs) (rule_refusal ws bs))
          then asks LIMIT (leb limit most_guesses))
      go true e = words_right (sized_met ws bs (passed _ e)) (first_of (word_count ws) (word_refusal ws)) refl
      go false e = as_refused SIZE refl (record { unmet = fails (sized ws bs) e (met_sized ws bs); earlier = λ d b. absurd (size_first d b) })

  -- two right answers are equal
  pub right_once : {x y : Checked} → Right limit ws bs x → Right limit ws bs y → x ≡ y
  right_once (ok f) (ok g) = refl
  right_once (ok f) (refused d p u) = absurd (u.unmet (fine_met limit ws bs f d))
  right_once (refused d p u) (ok g) = absurd (u.unmet (fine_met limit ws bs g d))
  right_once (refused d p u) (refused e q v) =
      let (a, b) = same_key {d = d} {e = e} (λ k. u.unmet (v.earlier d k)) (λ k. v.unmet (u.earlier e k)) in
      let z = same_refusal d e a b in
      cc

  -- so an answer is right just where it is the check's
  pub right_check : (x : Checked) → Right limit ws bs x → x ≡ refusal_with limit ws bs
  right_check x h = right_once h check_right

-- the answer OK, for the calls that go on from it
pub ok_fine : (limit : ℕ) (ws bs : List ℕ) → refusal_with limit ws bs ≡ Ok tt → Fine limit ws bs
ok_fine limit ws bs e = go (subst (Right limit ws bs) e (check_right limit ws bs))
  where
    go : Right limit ws bs (Ok tt) → Fine limit ws bs
    go (ok f) = f

-- a call that takes no limit refuses as one whose limit is 0
pub no_limit : (ws bs : List ℕ) → refusal ws bs ≡ refusal_with 0 ws bs
unfolding refusal_with
no_limit ws bs = go (refusal ws bs)
  where
    go : (x : Checked) → x ≡ x then Ok tt
    go (Ok tt) = refl
    go (Err r) = refl

-- a problem that the check does not refuse
pub proper_fine : (ws bs : List ℕ) → refusal ws bs ≡ Ok tt → Fine 0 ws bs
proper_fine ws bs e = ok_fine 0 ws bs (sym (no_limit ws bs) ∙ e)

pub problem_ok : (limit : ℕ) (ws bs : List ℕ) → refusal_with limit ws bs ≡ Ok tt → refusal ws bs ≡ Ok tt
unfolding refusal_with
problem_ok limit ws bs e = (then_ok (refusal ws bs) _ e).0

-- and every proper problem is one
pub fine_passed : {limit : ℕ} (ws bs : List ℕ) → Fine limit ws bs → refusal ws bs ≡ Ok tt
fine_passed {limit} ws bs f = problem_ok limit ws bs (sym (right_check limit ws bs (Ok tt) (ok f)))
