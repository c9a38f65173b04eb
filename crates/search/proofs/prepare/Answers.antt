use native.Mathlib.Omega.{arith}
use Rattle.checker.proofs.Right.{proper_fine}
use Rattle.search.proofs.Preparing.{prepared_none, prepared_found, prepared_stopped, commit_room, commit_fixable, prepared_guess}
use Rattle.search.proofs.prepare.Goals as goal

pub open_word-requires : goal.open_word-requires
open_word-requires c =
    let fine = proper_fine _ _ c.args.task.now.problem.fine in
    (omega (arith, fine.sized.words, c.word_count-n.ensures), omega (arith, c.requires.tabled.room, c.if-not-settle.ensures.outside.size))

pub returns-then-not-settle : goal.returns-then-not-settle
returns-then-not-settle c = prepared_none (proper_fine _ _ c.args.task.now.problem.fine) c.requires c.if-not-settle.ensures

pub returns-in_default : goal.returns-in_default
returns-in_default c =
    prepared_found (proper_fine _ _ c.args.task.now.problem.fine) c.requires c.if-not-settle.ensures (rw c.word_count-n.ensures at c.in_default.ensures)

pub returns-then-used-task : goal.returns-then-used-task
returns-then-used-task c =
    prepared_stopped (proper_fine _ _ c.args.task.now.problem.fine) c.requires c.if-not-settle.ensures (rw c.word_count-n.ensures at c.in-Some.ensures)
    c.if-used-task.true

pub commit-entries-requires : goal.commit-entries-requires
commit-entries-requires c =
    let fine = proper_fine _ _ c.args.task.now.problem.fine in
    let s = c.if-not-settle.ensures in
    let n = c.word_count-n.ensures in
    (omega (arith, n, fine.sized.words), omega (arith, c.requires.room, s.outside.size), rw n (commit_room fine c.requires s))

pub fix_first-requires : goal.fix_first-requires
fix_first-requires c =
    let n = c.word_count-n.ensures in
    commit_fixable (proper_fine _ _ c.args.task.now.problem.fine) c.requires c.if-not-settle.ensures (rw n at c.in-Some.ensures)
    (rw n at c.commit-entries.ensures)

pub returns : goal.returns
returns c =
    let n = c.word_count-n.ensures in
    rw c.fix_first.ensures
    (prepared_guess (proper_fine _ _ c.args.task.now.problem.fine) c.requires c.if-not-settle.ensures (rw n at c.in-Some.ensures)
    (rw n at c.commit-entries.ensures) c.if-used-task.false)
