use native.Mathlib.Omega.{arith}
use Rattle.solve.proofs.Calling.{work_room, model_room, fine, asked, memory_room, end_found, end_none, end_gave_up}
use Rattle.solve.proofs.solve_proper.Goals as goal

pub list_all-requires : goal.list_all-requires
list_all-requires c =
    let rules = c.rule_count-rules.ensures in
    (omega (arith, (fine c.requires).sized.rules, rules), omega (arith, (fine c.requires).sized.rules, rules, work_room c.requires))

pub search_problem-requires : goal.search_problem-requires
search_problem-requires c =
    rw c.rule_count-rules.ensures (asked c.requires (rw c.rule_count-rules.ensures at c.list_all.ensures) (omega arith))

pub store-requires : goal.store-requires
store-requires c = (
  omega (arith, model_room c.requires),
  omega
      (arith, memory_room c.requires (rw c.rule_count-rules.ensures at c.list_all.ensures) (rw c.rule_count-rules.ensures at c.search_problem.ensures)),
)

pub returns-in-Found : goal.returns-in-Found
returns-in-Found c =
    end_found c.requires (rw c.rule_count-rules.ensures at c.list_all.ensures) (rw c.rule_count-rules.ensures at c.search_problem.ensures) (omega arith)
    c.in-Found.is
    (rw c.word_count.ensures at c.store.ensures) c.clear.ensures

pub returns-in-Nothing : goal.returns-in-Nothing
returns-in-Nothing c =
    end_none c.requires (rw c.rule_count-rules.ensures at c.list_all.ensures) (rw c.rule_count-rules.ensures at c.search_problem.ensures) (omega arith)
    c.in-Nothing.is c.clear-in-Nothing.ensures

pub returns-in-GaveUp : goal.returns-in-GaveUp
returns-in-GaveUp c =
    end_gave_up c.requires (rw c.rule_count-rules.ensures at c.list_all.ensures) (rw c.rule_count-rules.ensures at c.search_problem.ensures) (omega arith)
    c.in-GaveUp.is c.clear-in-GaveUp.ensures
