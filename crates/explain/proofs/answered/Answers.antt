use mathlib.Core.Path.{◌≡◌, refl}
use Prim.Native.Nat.{ℕ}
use Rattle.problem.specs.Places.{Bounds, span_of}
use Rattle.reason_theory.specs.Says.{Says}
use Rattle.explain.specs.declared.Question.{Question}
use Rattle.explain.specs.declared.Said.{Said}
use Rattle.explain.specs.declared.Said.TheVariants as said
use Rattle.explain.specs.Asking.{shape_in, place_in, answer}
use Rattle.explain.proofs.Answers.{narrow_said}
use Rattle.explain.proofs.Calling.{given_free, given_conflict, given_forced}
use Rattle.explain.proofs.answered.Goals as goal

-- the answer is what the rule says
says : (q : Question) (t : Bounds) {x y : Said} → x ≡ y → Says (shape_in q) (span_of t) (place_in q) q.bit (answer y)
    → Says (shape_in q) (span_of t) (place_in q) q.bit (answer x)
says q t e h = rw e h

-- an answer that is neither CONFLICT nor FORCED
free_left : (x : Said) → ¬ (x ≡ said.Conflict) → ((v : ℕ) → ¬ (x ≡ said.Forced v)) → x ≡ said.Free
free_left said.Conflict n m = absurd (n refl)
free_left (said.Forced v) n m = absurd (m v refl)
free_left said.Free n m = refl

pub returns-in-Conflict : goal.returns-in-Conflict
returns-in-Conflict c =
    given_conflict c.args.q c.args.t (says c.args.q c.args.t c.said_by-x.ensures (narrow_said c.args.q _ c.narrow-o.ensures c.requires.0.used)) _
    c.reason.ensures
    c.in-Conflict.is

pub returns-in_default-x : goal.returns-in_default-x
returns-in_default-x c =
    given_free c.args.q c.args.t (says c.args.q c.args.t c.said_by-x.ensures (narrow_said c.args.q _ c.narrow-o.ensures c.requires.0.used)) _
    (free_left c.said_by-x.result c.in_default.not-Conflict c.in_default-x.not-Forced)

pub returns : goal.returns
returns c =
    given_forced c.args.q c.args.t
    (rw c.in-Forced.is at (says c.args.q c.args.t c.said_by-x.ensures (narrow_said c.args.q _ c.narrow-o.ensures c.requires.0.used))) _ c.reason-2.ensures _
    refl
