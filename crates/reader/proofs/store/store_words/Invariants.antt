use Rattle.std.proofs.Common.{◌≡◌, ℕ, ◌<◌, get_or}
use Rattle.lists.specs.Lists.{part}
use Rattle.blocks.specs.Bytes.{from_le}
use Rattle.blocks.specs.Decode.{slot}
use Rattle.reader.proofs.store.store_words.Given as goal

abbrev pub invariant-loop-x : goal.invariant-loop-x
invariant-loop-x l = (k : ℕ) → k < l.x → get_or l.number-items k 0 ≡ from_le (part l.file (slot k) 8)
