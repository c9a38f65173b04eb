use Rattle.checker.proofs.Right.{proper_fine}
use mathlib.Core.Path.{◌≡◌}
use Prim.Native.Nat.{suc, ◌-◌}
use native.Mathlib.Omega.{arith}
use Rattle.cause.proofs.Trimming.{going_start, sum_small, going_step, going_gave_up, limit_small, going_end}
use Rattle.cause.proofs.dropping.trim.Goals as goal

pub loop-n-init : goal.loop-n-init
loop-n-init c = rw c.rule_count-n.ensures (going_start c.requires)

pub returns-in_default : goal.returns-in_default
returns-in_default c =
    let e : c.loop-n.n ≡ suc (c.loop-n.n - 1) = omega (arith, c.loop-n-test.true) in
    going_gave_up c.requires (rw e at c.loop-n.invariant) _ c.in_default.ensures

pub overflow_add-sum : goal.overflow_add-sum
overflow_add-sum c =
    let e : c.loop-n.n ≡ suc (c.loop-n.n - 1) = omega (arith, c.loop-n-test.true) in
    omega (arith, sum_small c.requires (rw e at c.loop-n.invariant) c.in-Some.ensures, (proper_fine _ _ c.args.problem.now.fine).sized.rules)

pub loop-n-preserved : goal.loop-n-preserved
loop-n-preserved c =
    let e : c.loop-n.n ≡ suc (c.loop-n.n - 1) = omega (arith, c.loop-n-test.true) in
    going_step c.requires (rw e at c.loop-n.invariant) c.in-Some.ensures

pub returns : goal.returns
returns c =
    let e : c.loop-n.n ≡ 0 = omega (arith, c.loop-n-test.false) in
    going_end c.requires (rw e at c.loop-n.invariant)

pub overflow_add-result : goal.overflow_add-result
overflow_add-result c =
    let e : c.loop-n.n ≡ suc (c.loop-n.n - 1) = omega (arith, c.loop-n-test.true) in
    omega (arith, limit_small c.requires (rw e at c.loop-n.invariant), (proper_fine _ _ c.args.problem.now.fine).sized.rules)
