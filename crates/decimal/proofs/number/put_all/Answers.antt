use Rattle.std.proofs.Common.{refl, ◌∙◌, arith, length-set, take, length-take}
use Rattle.decimal.proofs.Puts.{spaced_start, spaced_room, spaced_turn, spaced_end}
use Rattle.decimal.proofs.number.put_all.Goals as goal

pub loop-x-init : goal.loop-x-init
loop-x-init g c = (spaced_start c.args.numbers.now c.requires, refl)

pub bounds-out-e : goal.bounds-out-e
bounds-out-e g c =
    omega (arith, spaced_room c.args.numbers.now c.loop-x.invariant.0 c.loop-x-test.true c.x-item.is c.into-n.ensures c.requires c.loop-x.invariant.1)

pub put-e-requires : goal.put-e-requires
put-e-requires g c =
    simp length-set (spaced_room c.args.numbers.now c.loop-x.invariant.0 c.loop-x-test.true c.x-item.is c.into-n.ensures c.requires c.loop-x.invariant.1)

pub loop-x-preserved : goal.loop-x-preserved
loop-x-preserved g c = (
  spaced_turn c.args.numbers.now c.loop-x.invariant.0 c.loop-x-test.true c.x-item.is c.into-n.ensures c.put-e.ensures
      (omega (arith, spaced_room c.args.numbers.now c.loop-x.invariant.0 c.loop-x-test.true c.x-item.is c.into-n.ensures c.requires c.loop-x.invariant.1)),
  c.put-e.auto.out ∙ simp length-set c.loop-x.invariant.1,
)

pub returns-clause-end : goal.returns-clause-end
returns-clause-end g c =
    omega (arith, spaced_end (take c.loop-x.x-index c.args.numbers.now) c.loop-x.invariant.0, length-take c.loop-x.x-index c.args.numbers.now)
