use Rattle.std.proofs.Common.{◌≡◌, ◌∙◌, ap}
use Rattle.lists.specs.Lists.{part}
use Rattle.lists.proofs.Parts.{short_part}
use Rattle.blocks.specs.Bytes.{from_le}
use Rattle.reader.proofs.Loading.{eight_bytes, eight_of}
use Rattle.reader.proofs.block.load.Goals as goal

pub returns : goal.returns
returns c =
    let e : c.unwrap.result ≡ part c.args.b.now c.args.at 8 = eight_of _ _ _ _ _ c.try_into.ensures.1 c.unwrap.ensures in
    c.from_le_bytes.ensures ∙ eight_bytes c.unwrap.result (rw e (short_part c.args.b.now c.args.at 8)) ∙ ap from_le e
