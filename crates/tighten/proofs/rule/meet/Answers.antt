use Rattle.tighten.specs.Meeting.{met_by}
use Rattle.tighten.proofs.Meeting.{span_some, span_none, not_both}
use Rattle.tighten.proofs.rule.meet.Goals as goal

pub returns-in_err-met : goal.returns-in_err-met
unfolding met_by
returns-in_err-met c =
    let q = span_none _ _ (rw c.span_at-old.ensures at c.in_err-met.ensures) in
    rw (c.from_residual.ensures, q)

pub returns : goal.returns
unfolding met_by
returns c =
    let (q, e) = span_some _ _ _ (rw c.span_at-old.ensures at c.in_ok-met.ensures) in
    rw (c.ne.ensures, not_both, c.span_at-old.ensures, e, q)
