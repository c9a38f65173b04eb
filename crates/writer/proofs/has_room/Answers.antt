use borrow.Author.Tests.{le-leb}
use Rattle.writer.proofs.Answers.{words_up, rules_up}
use Rattle.writer.proofs.has_room.Goals as goal

pub returns : goal.returns
returns c =
    rw (words_up _ c.div_ceil-before.ensures, rules_up _ c.div_ceil.ensures, le-leb _ _ c.if-words-gt96.false, le-leb _ _ c.if-rules-gt1512.false)
