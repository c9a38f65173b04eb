use mathlib.Core.Path.{sym}
use Rattle.tighten.specs.Meeting.{met_all}
use Rattle.tighten.proofs.Meeting.{met_lost, met_then}
use Rattle.tighten.proofs.rule.meet_all.Goals as goal

pub returns-in_err-r : goal.returns-in_err-r
unfolding met_all
returns-in_err-r c =
    rw c.from_residual.ensures (sym (met_lost _ _ _ (met_lost _ _ _ (met_lost _ _ _ (sym (rw c.word.ensures.0 at c.in_err-r.ensures))))))

pub returns-in_err-a : goal.returns-in_err-a
unfolding met_all
returns-in_err-a c =
    rw c.from_residual-in_err-a.ensures (sym (met_lost _ _ _
    (met_lost _ _ _ (met_then _ _ _ (sym (rw c.word.ensures.0 at c.in_ok-r.ensures)) (rw c.word-2.ensures.0 at c.in_err-a.ensures)))))

pub returns-in_err-b : goal.returns-in_err-b
unfolding met_all
returns-in_err-b c =
    rw c.from_residual-in_err-b.ensures
    (sym (met_lost _ _ _ (met_then _ _ _ (met_then _ _ _ (sym (rw c.word.ensures.0 at c.in_ok-r.ensures)) (rw c.word-2.ensures.0 at c.in_ok-a.ensures))
    (rw c.word-3.ensures.0 at c.in_err-b.ensures))))

pub returns-in_err-s : goal.returns-in_err-s
unfolding met_all
returns-in_err-s c =
    rw c.from_residual-in_err-s.ensures
    (sym (met_then _ _ _ (met_then _ _ _ (met_then _ _ _ (sym (rw c.word.ensures.0 at c.in_ok-r.ensures)) (rw c.word-2.ensures.0 at c.in_ok-a.ensures))
    (rw c.word-3.ensures.0 at c.in_ok-b.ensures)) (rw c.word-4.ensures.0 at c.in_err-s.ensures)))

pub returns : goal.returns
unfolding met_all
returns c =
    sym (met_then _ _ _ (met_then _ _ _ (met_then _ _ _ (sym (rw c.word.ensures.0 at c.in_ok-r.ensures)) (rw c.word-2.ensures.0 at c.in_ok-a.ensures))
    (rw c.word-3.ensures.0 at c.in_ok-b.ensures)) (rw c.word-4.ensures.0 at c.in_ok-s.ensures))
