-- The refusal of a word, of a rule and of a problem, by what their tests gave.
use mathlib.Core.Path.{◌≡◌, refl}
use mathlib.Core.Bool.{Bool, true, false}
use mathlib.Core.List.{List}
use Prim.Native.Nat.{ℕ, ◌≤◌, ◌<◌}
use native.Mathlib.Omega.{arith}
use borrow.Author.Tests.{le-leb, lt-leb}
use Rattle.words.specs.Word.{bounded}
use Rattle.checker.specs.declared.refusal.Refusal.{Refusal}
use Rattle.checker.specs.declared.refusal.Refusal.TheVariants.{Size, Width, Table, Kind, Field, Fit, Limit}
use Rattle.problem.specs.Lent.{word_count, width_at, lo_at, hi_at, rule_count, rule_at}
use Rattle.checker.specs.Demands.{Demand, most_guesses}
use Rattle.checker.specs.Tests.{sized, is_width, is_kind, are_fields, is_fitting}
use Rattle.std.specs.Prelude.{Ok, Err}
use Rattle.checker.specs.Refusal.{Checked, asks, ◌then◌, first_of, word_refusal, rule_refusal, refusal, limit_refusal, refusal_with}

-- what passes two tests one after the other passes both
pub passes : (d : Demand) (b : Bool) (y : Checked) → (asks d b then y) ≡ Ok tt → (b ≡ true) × (y ≡ Ok tt)
passes d true y e = (refl, e)
passes d false y e = absurd (let z : ◌≡◌ {A = ℕ} 0 1 = cc in omega arith)

module _ (ws : List ℕ) (i : ℕ) where
  pub refused_width : is_width (width_at ws i) ≡ false → Err (Width i) ≡ word_refusal ws i
  unfolding word_refusal
  refused_width e = rw e

  pub refused_table : is_width (width_at ws i) ≡ true → bounded (width_at ws i) (lo_at ws i) (hi_at ws i) ≡ false → Err (Table i) ≡ word_refusal ws i
  unfolding word_refusal
  refused_table e f = rw (e, f)

  pub ok_word : is_width (width_at ws i) ≡ true → bounded (width_at ws i) (lo_at ws i) (hi_at ws i) ≡ true → Ok tt ≡ word_refusal ws i
  unfolding word_refusal
  ok_word e f = rw (e, f)

module _ (ws bs : List ℕ) (n : ℕ) where
  pub refused_kind : is_kind (rule_at bs n).kind ≡ false → Err (Kind n) ≡ rule_refusal ws bs n
  unfolding rule_refusal
  refused_kind e = rw e

  pub refused_field : is_kind (rule_at bs n).kind ≡ true → are_fields (word_count ws) (rule_at bs n) ≡ false → Err (Field n) ≡ rule_refusal ws bs n
  unfolding rule_refusal
  refused_field e f = rw (e, f)

  pub refused_fit : is_kind (rule_at bs n).kind ≡ true → are_fields (word_count ws) (rule_at bs n) ≡ true → is_fitting ws (rule_at bs n) ≡ false
      → Err (Fit n) ≡ rule_refusal ws bs n
  unfolding rule_refusal
  refused_fit e f g = rw (e, f, g)

  pub ok_rule : is_kind (rule_at bs n).kind ≡ true → are_fields (word_count ws) (rule_at bs n) ≡ true → is_fitting ws (rule_at bs n) ≡ true
      → Ok tt ≡ rule_refusal ws bs n
  unfolding rule_refusal
  ok_rule e f g = rw (e, f, g)

module _ (ws bs : List ℕ) where
  pub refused_size : sized ws bs ≡ false → Err Size ≡ refusal ws bs
  unfolding refusal
  refused_size e = rw e

  pub refused_words : {r : Refusal} → sized ws bs ≡ true → first_of (word_count ws) (word_refusal ws) ≡ Err r → Err r ≡ refusal ws bs
  unfolding refusal
  refused_words e f = rw (e, f)

  pub ok_words : sized ws bs ≡ true → first_of (word_count ws) (word_refusal ws) ≡ Ok tt → first_of (rule_count bs) (rule_refusal ws bs) ≡ refusal ws bs
  unfolding refusal
  ok_words e f = rw (e, f)

  pub refused_problem : {r : Refusal} (limit : ℕ) → refusal ws bs ≡ Err r → Err r ≡ refusal_with limit ws bs
  unfolding refusal_with
  refused_problem limit e = rw e

  -- the limit is looked at where the problem is proper
  pub with_limit : {x : Checked} (limit : ℕ) → refusal ws bs ≡ Ok tt → x ≡ limit_refusal limit → x ≡ refusal_with limit ws bs
  unfolding refusal_with
  with_limit limit e q = rw e q

-- the refusal of a limit, by its test
pub refused_limit : (limit : ℕ) → most_guesses < limit → Err Limit ≡ limit_refusal limit
refused_limit limit l = rw (lt-leb limit most_guesses l)

pub ok_limit : (limit : ℕ) → limit ≤ most_guesses → Ok tt ≡ limit_refusal limit
ok_limit limit l = rw (le-leb limit most_guesses l)
