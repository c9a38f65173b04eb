-- To be believed: the advice on a file: what the program `advise` prints for it, byte by byte.
use Rattle.std.specs.Prelude.{◌≡◌, List, ℕ}
use Rattle.report.specs.Text.{Report, text_of}
use Rattle.report.specs.Promise.{Reports}

-- these bytes are the lines of the file's report
pub record Advice (f bytes : List ℕ) : Type 0 where
  pub report : Report
  pub reports : Reports f report
  pub text : bytes ≡ text_of report
