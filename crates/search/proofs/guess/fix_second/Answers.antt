use Rattle.search.specs.Guessing.{one_fixed}
use Rattle.search.proofs.Guesses.{some_open, top_low, top_off}
use Rattle.search.proofs.guess.fix_second.Goals as goal

pub highest_open-j-requires : goal.highest_open-j-requires
highest_open-j-requires c = some_open c.args.work.now c.args.i c.requires

pub fix_one-requires : goal.fix_one-requires
fix_one-requires c =
    rw c.highest_open-j.ensures (top_low c.args.work.now c.args.i c.requires, top_off c.args.work.now c.args.i c.requires)

pub returns : goal.returns
unfolding one_fixed
returns c = rw (c.fix_one.ensures, c.highest_open-j.ensures)
