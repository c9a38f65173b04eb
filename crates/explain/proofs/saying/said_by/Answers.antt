use Rattle.explain.proofs.Answers.{read_conflict, read_forced, read_free}
use Rattle.explain.proofs.saying.said_by.Goals as goal

pub returns-in_default : goal.returns-in_default
returns-in_default c = rw c.in_default.is (read_conflict c.args.q)

pub returns-then-l-h : goal.returns-then-l-h
returns-then-l-h c =
    rw c.in-Some.is
    (read_forced c.args.q c.in-Some.t (rw c.at-x.ensures at c.bit_of-l.ensures) (rw c.at-x.ensures at c.bit_of-h.ensures) c.if-l-h.true)

pub returns : goal.returns
returns c =
    rw c.in-Some.is
    (read_free c.args.q c.in-Some.t (rw c.at-x.ensures at c.bit_of-l.ensures) (rw c.at-x.ensures at c.bit_of-h.ensures) c.if-l-h.false)
