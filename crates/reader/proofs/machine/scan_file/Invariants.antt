use Rattle.reader.specs.Scans.{Stands}
use Rattle.reader.proofs.machine.scan_file.Given as goal

abbrev pub invariant-loop-i : goal.invariant-loop-i
invariant-loop-i l = Stands l.file l.i l.state
