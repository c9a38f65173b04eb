use native.Mathlib.Omega.{arith}
use Rattle.lists.specs.Lists.{zeros}
use Rattle.report.proofs.Advising.{short_bytes, short_work, unread_lines, read_proper, told_lines}
use Rattle.report.proofs.advise.Goals as goal

pub returns-then-out-lt-MOST : goal.returns-then-out-lt-MOST
returns-then-out-lt-MOST c = short_bytes _ _ _ c.if-out-lt-MOST.true

pub returns-then-work-lt-WORK : goal.returns-then-work-lt-WORK
returns-then-work-lt-WORK c = short_work _ _ _ c.if-work-lt-WORK.true

pub invariant_of-problem : goal.invariant_of-problem
unfolding zeros
invariant_of-problem c = record { fine = read_proper c.read.ensures c.in-Ok.is }

pub returns-in-Err : goal.returns-in-Err
unfolding zeros
returns-in-Err c =
    unread_lines c.read.ensures c.in-Err.is
    (record { bytes = omega (arith, c.if-out-lt-MOST.false); memory = omega (arith, c.if-work-lt-WORK.false) })
    (rw (c.number.ensures, c.place.ensures) at c.put_refused.ensures) c.clear.ensures

pub returns-in-Ok : goal.returns-in-Ok
unfolding zeros
returns-in-Ok c =
    told_lines c.read.ensures c.in-Ok.is
    (record { bytes = omega (arith, c.if-out-lt-MOST.false); memory = omega (arith, c.if-work-lt-WORK.false) })
    c.tell.ensures
