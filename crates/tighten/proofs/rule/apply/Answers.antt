use Rattle.tighten.proofs.Ready.{small, kind_read, asked, applied_none, applied_met}
use Rattle.tighten.proofs.Given.{ready}
use Rattle.tighten.proofs.rule.apply.Goals as goal

pub bounds_at-t-requires : goal.bounds_at-t-requires
bounds_at-t-requires c =
    small (ready c.args.problem.now.fine c.requires.0) c.args.j c.requires.1 c.fields_of-x.result c.fields_of-x.ensures

pub unreachable-requires : goal.unreachable-requires
unreachable-requires c =
    c.in_default.ensures.1 (kind_read (ready c.args.problem.now.fine c.requires.0) c.args.j c.requires.1 c.fields_of-x.result c.fields_of-x.ensures)

pub narrow-requires : goal.narrow-requires
narrow-requires c =
    rw c.from.ensures
    (asked (ready c.args.problem.now.fine c.requires.0) c.args.j c.requires.1 c.fields_of-x.result c.fields_of-x.ensures c.in-Ok.kind c.in-Ok.ensures.1
    c.widths_of-w.result
    c.bounds_at-t.result (rw c.words.ensures at c.widths_of-w.ensures) c.bounds_at-t.ensures)

pub meet_all-requires : goal.meet_all-requires
meet_all-requires c =
    small (ready c.args.problem.now.fine c.requires.0) c.args.j c.requires.1 c.fields_of-x.result c.fields_of-x.ensures

pub returns-in_err-left : goal.returns-in_err-left
returns-in_err-left c =
    rw c.from_residual.ensures
    (applied_none (ready c.args.problem.now.fine c.requires.0) c.args.j c.requires.1 c.fields_of-x.result c.fields_of-x.ensures c.in-Ok.kind c.in-Ok.ensures.1
    c.widths_of-w.result
    c.bounds_at-t.result (rw c.words.ensures at c.widths_of-w.ensures) c.bounds_at-t.ensures (rw c.from.ensures at c.in_err-left.ensures))

pub returns : goal.returns
returns c =
    applied_met (ready c.args.problem.now.fine c.requires.0) c.args.j c.requires.1 c.fields_of-x.result c.fields_of-x.ensures c.in-Ok.kind c.in-Ok.ensures.1
    c.widths_of-w.result
    c.bounds_at-t.result (rw c.words.ensures at c.widths_of-w.ensures) c.bounds_at-t.ensures c.in_ok-left.left (rw c.from.ensures at c.in_ok-left.ensures)
    c.meet_all.result _ c.meet_all.ensures
