use mathlib.Core.Path.{refl}
use Rattle.report.proofs.Telling.{valued, solve_ok, found_told, none_comes, gave_up_told, told_after}
use Rattle.report.proofs.tell.Goals as goal

pub unwrap-requires : goal.unwrap-requires
unwrap-requires c = solve_ok c.solve.ensures c.requires refl

pub put_sat-requires : goal.put_sat-requires
put_sat-requires c =
    (valued c.solve.new.model c.solve.auto.model c.requires, c.requires.lent.bytes)

pub returns-in-Found : goal.returns-in-Found
returns-in-Found c =
    found_told (rw c.unwrap.ensures at c.solve.ensures) c.in-Found.is c.put_sat.ensures

pub returns-in-Nothing : goal.returns-in-Nothing
returns-in-Nothing c =
    told_after (none_comes (rw c.unwrap.ensures at c.solve.ensures) c.in-Nothing.is).1 (rw c.from.ensures at c.tell_none.ensures)

pub returns-in-GaveUp : goal.returns-in-GaveUp
returns-in-GaveUp c =
    gave_up_told (rw c.unwrap.ensures at c.solve.ensures) c.in-GaveUp.is c.put_unknown.ensures
