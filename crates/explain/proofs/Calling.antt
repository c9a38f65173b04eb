-- The call's own steps: the answer for an open bit, and the refusals, as the promise says.
use mathlib.Core.Path.{◌≡◌, refl, ap, ◌∙◌}
use mathlib.Core.List.{List, []}
use Prim.Native.Nat.{ℕ, ◌≤◌, ◌<◌}
use native.Mathlib.Omega.{arith}
use lib.ListN.{length}
use Rattle.std.specs.Prelude.{Result, Ok, Err}
use Rattle.checker.specs.declared.refusal.Refusal.{Refusal}
use Rattle.checker.specs.declared.refusal.Refusal.TheVariants.{Size, Ask}
use Rattle.problem.specs.Lent.{rule_count}
use Rattle.checker.specs.Refusal.{refusal}
use Rattle.checker.proofs.Rooms.{first_short, roomy}
use Rattle.problem.specs.Places.{Bounds, span_of}
use Rattle.reason_theory.specs.Says.{CONFLICT, FORCED, FREE, Says}
use Rattle.reason_theory.specs.Reason.{no_reason, with_reason}
use Rattle.explain.specs.declared.Question.{Question}
use Rattle.explain.specs.declared.Said.{Said}
use Rattle.explain.specs.declared.Said.TheVariants as said
use Rattle.explain.specs.declared.Explained.{Explained}
use Rattle.explain.specs.declared.Explained.TheVariants as explained
use Rattle.explain.specs.Asking.{shape_in, place_in, answer}
use Rattle.explain.specs.Dropping.{Reasoned}
use Rattle.explain.specs.Promise.{entries, explain_refusal, Explanation, Judged, not_asked, Explaining, refused, judged}
use Rattle.explain.proofs.Answers.{conflict_free, forced_free}

-- ---- the answer for an open bit

module _ (q : Question) (t : Bounds) {x : Said} (s : Says (shape_in q) (span_of t) (place_in q) q.bit (answer x)) (l : List ℕ) where
  pub given_free : x ≡ said.Free → Explanation (shape_in q) (span_of t) (place_in q) q.bit l explained.Free l
  given_free e = record { answer = FREE; out = []; explains = no_reason (rw e at s); told = refl; stands = refl }

  module _ {c : ℕ} {m : List ℕ} (r : Reasoned q x t l c m) where
    pub given_conflict : x ≡ said.Conflict → Explanation (shape_in q) (span_of t) (place_in q) q.bit l (explained.Conflict c) m
    given_conflict e = record {
      answer = CONFLICT;
      out = r.out;
      explains = with_reason conflict_free (rw e at s) (rw e at r.reason);
      told = ap explained.Conflict r.count;
      stands = r.list;
    }

    pub given_forced : (b : ℕ) → x ≡ said.Forced b → Explanation (shape_in q) (span_of t) (place_in q) q.bit l (explained.Forced b c) m
    given_forced b e = record {
      answer = FORCED b;
      out = r.out;
      explains = with_reason forced_free (rw e at s) (rw e at r.reason);
      told = ap (explained.Forced b) r.count;
      stands = r.list;
    }

-- a rule that is not there
pub rule_refused : {ws bs l : List ℕ} (n p j : ℕ) → rule_count bs ≤ n → Judged ws bs n p j l (Err Ask) l
rule_refused n p j h = not_asked (λ a. omega (arith, a.there))

-- and a number that is no place's
pub place_refused : {ws bs l : List ℕ} (n p j : ℕ) → 3 < p → Judged ws bs n p j l (Err Ask) l
place_refused n p j h = not_asked (λ a. omega (arith, a.open_bit.place))

-- ---- the refusals before the question

module _ (ws bs l : List ℕ) (n p j : ℕ) where
  pub short_refused : length l < entries → Explaining ws bs n p j l (Err Size) l
  unfolding explain_refusal
  short_refused h = refused (first_short entries (length l) 0 0 (refusal ws bs) h)

  pub problem_refused : {r : Refusal} → entries ≤ length l → refusal ws bs ≡ Err r
      → Explaining ws bs n p j l (Err r) l
  unfolding explain_refusal
  problem_refused h e = refused (roomy entries (length l) 0 0 (refusal ws bs) h (omega arith) ∙ e)

  pub problem_judged : {r : Result Explained Refusal} {m : List ℕ} → entries ≤ length l → refusal ws bs ≡ Ok tt → Judged ws bs n p j l r m
      → Explaining ws bs n p j l r m
  unfolding explain_refusal
  problem_judged h e d = judged (roomy entries (length l) 0 0 (refusal ws bs) h (omega arith) ∙ e) d
