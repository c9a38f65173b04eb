use mathlib.Core.Logic.{inl}
use Prim.Native.Nat.{◌≤◌}
use native.Mathlib.Omega.{arith}
use lib.ListN.{length}
use Rattle.checker.proofs.Right.{proper_fine}
use Rattle.search.proofs.Starts.{problem_begun, problem_sought}
use Rattle.search.proofs.search_problem.Goals as goal

pub load-requires : goal.load-requires
load-requires c = ((proper_fine _ _ c.args.problem.now.fine).sized.words, omega (arith, c.requires.room))

pub copy_table-requires : goal.copy_table-requires
copy_table-requires c =
    let fine = proper_fine _ _ c.args.problem.now.fine in
    let room : 4476 ≤ length c.load.new.work = omega (arith, c.requires.room, c.load.ensures.size) in
    (omega (arith, c.word_count.ensures, fine.sized.words), omega (arith, room), omega (arith, room), inl (omega arith))

pub search-requires : goal.search-requires
search-requires c =
    problem_begun (proper_fine _ _ c.args.problem.now.fine) c.requires c.load.ensures (rw c.word_count.ensures at c.copy_table.ensures) _

pub returns : goal.returns
returns c =
    problem_sought (proper_fine _ _ c.args.problem.now.fine) c.requires c.load.ensures (rw c.word_count.ensures at c.copy_table.ensures) c.search.ensures
