use native.Mathlib.Omega.{arith}
use Rattle.cause.proofs.Calling.{work_room, fine, trimming, gave_up_end, give_room, cause_end}
use Rattle.cause.proofs.trials.Goals as goal

pub list_all-requires : goal.list_all-requires
list_all-requires c =
    let rules = c.rule_count.ensures in (
      omega (arith, (fine c.requires.given).sized.rules, rules),
      omega (arith, (fine c.requires.given).sized.rules, rules, work_room c.requires.given),
    )

pub trim-requires : goal.trim-requires
trim-requires c =
    trimming c.requires (rw c.rule_count.ensures at c.list_all.ensures)

pub returns-in-Err : goal.returns-in-Err
returns-in-Err c = gave_up_end c.requires (rw c.rule_count.ensures at c.list_all.ensures) c.in-Err.ensures c.clear.ensures

pub give-requires : goal.give-requires
give-requires c = give_room c.requires (rw c.rule_count.ensures at c.list_all.ensures) c.in-Ok.ensures

pub returns : goal.returns
returns c = cause_end c.requires (rw c.rule_count.ensures at c.list_all.ensures) c.in-Ok.ensures c.give.ensures c.clear-2.ensures
