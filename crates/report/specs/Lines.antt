-- Mirrors code: what putting text behind lines comes to.
use Rattle.std.specs.Prelude.{◌≡◌, List, ℕ}
use Rattle.decimal.specs.Putting.{Appended}
use Rattle.report.specs.declared.line.Lines.{Lines}

-- xs was put behind the lines, which stay in the same lent bytes
pub record Puts (l : Lines) (xs : List ℕ) (m : Lines) : Type 0 where
  pub there : Appended l.out.now l.at xs m.out.now m.at
  pub same : m.out.ghost_name ≡ l.out.ghost_name
