use mathlib.Core.Path.{◌≡◌}
use Prim.Native.Nat.{◌+◌, ◌*◌, ◌≤◌}
use lib.ListN.{length}
use Rattle.lists.specs.Lists.{flat}
use Rattle.report.specs.Lines.{Puts}
use Rattle.report.proofs.Reports.{lent_line}
use Rattle.report.proofs.line.Lines.words.Given as goal

abbrev pub invariant-loop-i : goal.invariant-loop-i
invariant-loop-i l =
    Puts l.initial.self (flat l.i (lent_line l.words l.model)) l.self × (length l.self.out.now ≡ length l.initial.self.out.now)
    × (l.self.at ≤ l.initial.self.at + 71 * l.i)
