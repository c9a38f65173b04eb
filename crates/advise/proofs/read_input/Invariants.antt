use Rattle.std.proofs.Common.{◌≡◌, ◌≤◌, length}
use Rattle.advise.proofs.read_input.Given as goal

abbrev pub invariant-loop : goal.invariant-loop
invariant-loop g l = (length l.file ≡ length l.initial.file) × (l.at ≤ length l.initial.file)
