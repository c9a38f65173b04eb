use native.Mathlib.Omega.{arith}
use Rattle.cause.proofs.Calling.{work_room, fine, asked, end_exists, end_gave_up, end_none, end_trials}
use Rattle.cause.proofs.cause_proper.Goals as goal

pub list_all-requires : goal.list_all-requires
list_all-requires c =
    let rules = c.rule_count-rules.ensures in
    (omega (arith, (fine c.requires).sized.rules, rules), omega (arith, (fine c.requires).sized.rules, rules, work_room c.requires))

pub search_problem-requires : goal.search_problem-requires
search_problem-requires c =
    rw c.rule_count-rules.ensures (asked c.requires (rw c.rule_count-rules.ensures at c.list_all.ensures))

pub trials-requires : goal.trials-requires
trials-requires c =
    end_none c.requires (rw c.rule_count-rules.ensures at c.list_all.ensures) (rw c.rule_count-rules.ensures at c.search_problem.ensures) c.in-Nothing.is

pub returns-in-Found : goal.returns-in-Found
returns-in-Found c =
    end_exists c.requires (rw c.rule_count-rules.ensures at c.list_all.ensures) (rw c.rule_count-rules.ensures at c.search_problem.ensures) c.in-Found.is
    c.clear.ensures

pub returns-in-Nothing : goal.returns-in-Nothing
returns-in-Nothing c =
    end_trials c.requires (rw c.rule_count-rules.ensures at c.list_all.ensures) (rw c.rule_count-rules.ensures at c.search_problem.ensures) c.trials.ensures

pub returns-in-GaveUp : goal.returns-in-GaveUp
returns-in-GaveUp c =
    end_gave_up c.requires (rw c.rule_count-rules.ensures at c.list_all.ensures) (rw c.rule_count-rules.ensures at c.search_problem.ensures) c.in-GaveUp.is
    c.clear-in-GaveUp.ensures
