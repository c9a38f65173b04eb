use mathlib.Core.Path.{subst}
use native.Mathlib.Omega.{arith}
use Rattle.checker.proofs.Handed.{handed_on}
use Rattle.reader.specs.Scans.{Stands}
use Rattle.reader.proofs.Turns.{of_stop, at_start, not_whole, unended, all_read}
use Rattle.reader.proofs.machine.scan_file.Goals as goal

pub returns-then-n-ne0 : goal.returns-then-n-ne0
returns-then-n-ne0 c = not_whole (λ p q r. c.if-n-ne0.true p)

pub returns-then-k-eq0 : goal.returns-then-k-eq0
returns-then-k-eq0 c = not_whole {f = c.args.file.now} (λ p q r. omega arith)

pub returns-then-k-gt7 : goal.returns-then-k-gt7
returns-then-k-gt7 c = not_whole {f = c.args.file.now} (λ p q r. omega arith)

pub loop-i-init : goal.loop-i-init
loop-i-init c = at_start

pub returns-in_err-state : goal.returns-in_err-state
returns-in_err-state c =
    rw (handed_on c.from_residual.result c.from_residual.ensures.1)
    (of_stop (record { whole = c.if-n-ne0.false; some = omega arith; most = c.if-k-gt7.false }) c.in_err-state.ensures)

pub returns-in_default : goal.returns-in_default
returns-in_default c =
    let x = subst (Stands _ _) c.in_default.is c.loop-i.invariant in
    unended (record { whole = c.if-n-ne0.false; some = omega arith; most = c.if-k-gt7.false }) (record { each = λ j. (c.type_inv.file j).fits })
    (omega arith) (omega arith) x

pub returns : goal.returns
returns c =
    let x = subst (Stands _ _) c.in-Ended.is c.loop-i.invariant in
    all_read (record { whole = c.if-n-ne0.false; some = omega arith; most = c.if-k-gt7.false }) (record { each = λ j. (c.type_inv.file j).fits })
    (omega arith) (omega arith) x
