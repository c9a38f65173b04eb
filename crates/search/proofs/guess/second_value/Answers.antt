use Rattle.search.proofs.Guesses.{moved_fixable, second_left}
use Rattle.search.proofs.guess.second_value.Goals as goal

pub fix_second-requires : goal.fix_second-requires
fix_second-requires c =
    moved_fixable c.requires c.copy_table.ensures

pub returns : goal.returns
returns c =
    second_left c.requires c.copy_table.ensures _ c.fix_second.ensures
