use Rattle.std.proofs.Common.{◌≡◌, arith}
use Rattle.explain.proofs.PlaceNumbers.{nth_place}
use Rattle.explain.proofs.Walking.{none_gone, next_asked, next_gone, all_gone}
use Rattle.explain.proofs.dropping.reason.Goals as goal

pub loop-p-init : goal.loop-p-init
loop-p-init c = none_gone c.requires.0 c.requires.1

pub drop_place-r-requires : goal.drop_place-r-requires
drop_place-r-requires c =
    next_asked c.requires.0 c.requires.1 c.loop-p.p-index _ (nth_place c.loop-p.p-index c.loop-p-test.true) c.loop-p.invariant c.loop-p-test.true

pub loop-p-preserved : goal.loop-p-preserved
loop-p-preserved c =
    next_gone c.requires.0 c.requires.1 c.loop-p.p-index _ (nth_place c.loop-p.p-index c.loop-p-test.true) c.loop-p.invariant c.drop_place-r.ensures

pub returns : goal.returns
returns c =
    let e : c.loop-p.p-index ≡ 4 = omega arith in
    all_gone c.requires.0 c.requires.1 (rw e at c.loop-p.invariant)
