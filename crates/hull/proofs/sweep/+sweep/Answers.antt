use Rattle.std.proofs.Common.{arith}
use Rattle.hull.specs.Columns.{sweep_of}
use Rattle.hull.proofs.Size.{joined, sweep_small}
use Rattle.hull.proofs.sweep.+sweep.Goals as goal

pub returns-then-n-eq0 : goal.returns-then-n-eq0
unfolding sweep_of
returns-then-n-eq0 t c = rw (c.if-n-eq0.true, c.fixed-nothing.ensures)

pub back-requires : goal.back-requires
back-requires t c = rw c.sweep-o.ensures (sweep_small _ _ _ _ _ (omega arith))

pub returns : goal.returns
returns t c =
    joined c.args.u c.args.n c.args.f.zero c.args.f.one c.args.w c.if-n-eq0.false
    c.allowed-a.result c.allowed-a.ensures
    c.either.result c.either.ensures
    c.either-2.result c.either-2.ensures
    c.halves.result c.halves.ensures
    c.sweep-o.result c.sweep-o.ensures
    c.back.result c.back.ensures
