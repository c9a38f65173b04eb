-- The faults that "What comes back" names, each a demand that is not met; the first of them is the check's answer.
use mathlib.Core.Path.{◌≡◌, refl, sym}
use mathlib.Core.Logic.{◌≢◌}
use mathlib.Core.List.{List}
use Prim.Native.Nat.{ℕ, ◌+◌, ◌%◌, ◌≤◌, ◌<◌}
use native.Mathlib.Decide.{dec_lt}
use native.Mathlib.Omega.{arith}
use lib.Dec.{T}
use lib.ListN.{length}
use Rattle.words.specs.Bits.{bit}
use Rattle.words.proofs.BoundedBits.{bounded_bits}
use Rattle.rules.specs.Kinds.{Place, R, A, B, SLICE, JOIN, SHL, SHR, op, kind_of}
use Rattle.rules.specs.Rows.{uses, Fitting}
use Rattle.rules.specs.Tight.{word}
use Rattle.rules.specs.ProperProblem.{uses_k, kinds, most_words, most_rules}
use Rattle.std.specs.Prelude.{Err}
use Rattle.problem.specs.Lent.{stride, fields, word_count, width_at, lo_at, hi_at, rule_count, rule_at}
use Rattle.checker.specs.Demands.{Demand, SIZE, WIDTH, TABLE, KIND, FIELD, FIT, LIMIT, Met, most_guesses, There}
use Rattle.checker.specs.Refusals.{refusal_of}
use Rattle.checker.specs.Refusal.{refusal_with}
use Rattle.checker.specs.Promise.{FirstUnmet, refused}
use Rattle.checker.proofs.Right.{right_check}

inside : {P : Type 0} (i n : ℕ) → ¬ (i < n → P) → i < n
inside {P} i n u = go (dec_lt i n)
  where
    go : Dec (i < n) → i < n
    go (yes l) = l
    go (no f) = absurd (u (λ l. absurd (f l)))

module _ (limit : ℕ) (ws bs : List ℕ) where
  -- the first demand that is not met is refused
  pub first_refused : (d : Demand) → FirstUnmet limit ws bs d → refusal_with limit ws bs ≡ Err (refusal_of d)
  first_refused d u = sym (right_check limit ws bs (Err (refusal_of d)) (refused {r = refusal_of d} d refl u))

  pub unmet_there : (d : Demand) → ¬ Met limit ws bs d → There limit ws bs d
  unmet_there SIZE u = tt
  unmet_there (WIDTH i) u = inside i (word_count ws) u
  unmet_there (TABLE i) u = inside i (word_count ws) u
  unmet_there (KIND n) u = inside n (rule_count bs) u
  unmet_there (FIELD n) u = inside n (rule_count bs) u
  unmet_there (FIT n) u = inside n (rule_count bs) u
  unmet_there LIMIT u = tt

  pub data Fault : Demand → Type 0 where
    many_words : most_words < word_count ws → Fault SIZE
    many_rules : most_rules < rule_count bs → Fault SIZE
    cut_word : length ws % stride ≢ 0 → Fault SIZE
    cut_rule : length bs % fields ≢ 0 → Fault SIZE
    no_width : {i : ℕ} → i < word_count ws → width_at ws i ≡ 0 → Fault (WIDTH i)
    over_width : {i : ℕ} → i < word_count ws → 64 < width_at ws i → Fault (WIDTH i)
    lo_above : {i : ℕ} (j : ℕ) → i < word_count ws → width_at ws i ≤ j → bit (lo_at ws i) j ≡ 1 → Fault (TABLE i)
    hi_above : {i : ℕ} (j : ℕ) → i < word_count ws → width_at ws i ≤ j → bit (hi_at ws i) j ≡ 1 → Fault (TABLE i)
    lo_outside : {i : ℕ} (j : ℕ) → i < word_count ws → bit (lo_at ws i) j ≡ 1 → bit (hi_at ws i) j ≡ 0 → Fault (TABLE i)
    no_kind : {n : ℕ} → n < rule_count bs → (rule_at bs n).kind ≡ 0 → Fault (KIND n)
    over_kind : {n : ℕ} → n < rule_count bs → kinds < (rule_at bs n).kind → Fault (KIND n)
    no_word : {n : ℕ} (p : Place) → n < rule_count bs → T (uses (kind_of (rule_at bs n).kind) p) → word_count ws ≤ word (rule_at bs n) p → Fault (FIELD n)
    unused_word : {n : ℕ} (p : Place) → n < rule_count bs → ¬ T (uses (kind_of (rule_at bs n).kind) p) → word (rule_at bs n) p ≢ 0 → Fault (FIELD n)
    unused_k : {n : ℕ} → n < rule_count bs → ¬ T (uses_k (kind_of (rule_at bs n).kind)) → (rule_at bs n).k ≢ 0 → Fault (FIELD n)
    no_fit : {n : ℕ} → n < rule_count bs
        → ¬ Fitting (kind_of (rule_at bs n).kind) (λ p. width_at ws (word (rule_at bs n) p)) (rule_at bs n).k → Fault (FIT n)
    many_guesses : most_guesses < limit → Fault LIMIT

  pub fault_unmet : {d : Demand} → Fault d → ¬ Met limit ws bs d
  fault_unmet (many_words l) m = omega (arith, m.words)
  fault_unmet (many_rules l) m = omega (arith, m.rules)
  fault_unmet (cut_word e) m = e m.whole_words
  fault_unmet (cut_rule e) m = e m.whole_rules
  fault_unmet (no_width l e) m = omega (arith, (m l).low)
  fault_unmet (over_width l o) m = omega (arith, (m l).high)
  fault_unmet (lo_above j l o e) m = omega (arith, ((bounded_bits (m l) j).1 o).0)
  fault_unmet (hi_above j l o e) m = omega (arith, ((bounded_bits (m l) j).1 o).1)
  fault_unmet (lo_outside j l e f) m = omega (arith, (bounded_bits (m l) j).0)
  fault_unmet (no_kind l e) m = omega (arith, (m l).low)
  fault_unmet (over_kind l o) m = omega (arith, (m l).high)
  fault_unmet (no_word p l u o) m = omega (arith, (m l).used p u)
  fault_unmet (unused_word p l u e) m = e ((m l).unused p u)
  fault_unmet (unused_k l u e) m = e ((m l).unused_k u)
  fault_unmet (no_fit l f) m = f (m l)
  fault_unmet (many_guesses o) m = omega arith

  -- SLICE one bit too long, JOIN of another width than its parts together, and a shift of a word of another width do not fit
  module _ (w : Place → ℕ) (k : ℕ) where
    pub long_slice : w A < k + w R → ¬ Fitting (op SLICE) w k
    long_slice l f = omega arith

    pub other_join : w R ≢ w A + w B → ¬ Fitting (op JOIN) w k
    other_join e f = e f

    pub other_shl : w R ≢ w A → ¬ Fitting (op SHL) w k
    other_shl e f = e f

    pub other_shr : w R ≢ w A → ¬ Fitting (op SHR) w k
    other_shr e f = e f
