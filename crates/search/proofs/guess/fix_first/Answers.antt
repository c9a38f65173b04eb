use Rattle.search.specs.Guessing.{zero_fixed}
use Rattle.search.proofs.Guesses.{some_open, top_low, top_on}
use Rattle.search.proofs.guess.fix_first.Goals as goal

pub highest_open-j-requires : goal.highest_open-j-requires
highest_open-j-requires c = some_open c.args.work.now c.args.i c.requires

pub fix_zero-requires : goal.fix_zero-requires
fix_zero-requires c =
    rw c.highest_open-j.ensures (top_low c.args.work.now c.args.i c.requires, top_on c.args.work.now c.args.i c.requires)

pub returns : goal.returns
unfolding zero_fixed
returns c = rw (c.fix_zero.ensures, c.highest_open-j.ensures)
