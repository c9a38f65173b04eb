use Rattle.std.proofs.Common.{◌≡◌, ℕ, ◌+◌, ◌/◌, ◌%◌, ◌<◌, get_or}
use Rattle.blocks.specs.Decode.{slot}
use Rattle.reader.proofs.store.store_rules.Given as goal

abbrev pub invariant-loop-x : goal.invariant-loop-x
invariant-loop-x l = (k : ℕ) → k < l.x → get_or l.byte-items k 0 ≡ get_or l.file (l.before + slot (k / 6) + k % 6) 0
