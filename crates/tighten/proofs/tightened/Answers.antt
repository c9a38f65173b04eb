use native.Mathlib.Omega.{arith}
use Rattle.checker.proofs.Right.{proper_fine}
use Rattle.tighten.proofs.Calling.{call_tabled, call_listed, call_left}
use Rattle.tighten.proofs.tightened.Goals as goal

pub load-requires : goal.load-requires
load-requires c = ((proper_fine _ _ c.args.problem.now.fine).sized.words, omega (arith, c.requires))

pub list_all-requires : goal.list_all-requires
list_all-requires c =
    let fine = proper_fine _ _ c.args.problem.now.fine in
    let rules = c.rule_count-count.ensures in
    (omega (arith, fine.sized.rules, rules), omega (arith, fine.sized.rules, rules, c.requires, c.load.ensures.size))

pub settle-requires : goal.settle-requires
settle-requires c =
    let fine = proper_fine _ _ c.args.problem.now.fine in
    let listed = rw c.rule_count-count.ensures at c.list_all.ensures in
    (call_tabled fine c.requires c.load.ensures listed, rw c.rule_count-count.ensures (call_listed fine c.requires c.load.ensures listed))

pub returns : goal.returns
returns c =
    call_left (proper_fine _ _ c.args.problem.now.fine) c.requires c.load.ensures (rw c.rule_count-count.ensures at c.list_all.ensures)
    (rw c.rule_count-count.ensures at c.settle.ensures)
