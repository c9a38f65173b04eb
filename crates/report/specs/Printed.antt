-- To be believed: what putting a report into lent bytes promises, and what is asked for.
-- Mirrors code: `Valued`.
use Rattle.std.specs.Prelude.{◌≡◌, List, ◌++◌, ℕ, ◌≤◌, ◌<◌, length, drop}
use Rattle.problem.specs.Lent.{word_count, width_at}
use Rattle.report.specs.Text.{Report, text_of}

-- bytes that always do for a report
abbrev pub most : ℕ
most = 2304

-- out was lent and is out' afterwards, and e comes back: the report's lines stand in front, e is their length, and the rest stays as it was
pub record Printed (x : Report) (out out' : List ℕ) (e : ℕ) : Type 0 where
  pub ends : e ≡ length (text_of x)
  pub text : out' ≡ text_of x ++ drop (length (text_of x)) out

-- the lent words have widths of at most 64, are at most 32, and each has a value
pub record Valued (ws values : List ℕ) : Type 0 where
  pub few : word_count ws ≤ 32
  pub narrow : (i : ℕ) → i < word_count ws → width_at ws i ≤ 64
  pub there : word_count ws ≤ length values
