-- To be believed: a proper table: widths and bounds as "Words" says.
use Rattle.std.specs.Prelude.{◌≡◌, List, ℕ, ◌<◌, length}
use Rattle.words.specs.Word.{Width, Bounded}
use Rattle.words.specs.Table.{Table}
use Rattle.lists.specs.Lists.{at}

-- Each word has a width and bounds; past the last word stand zeros, which are bounds of width 0
pub record Proper (w : List ℕ) (t : Table) : Type 0 where
  pub los : length t.lo ≡ length w
  pub his : length t.hi ≡ length w
  pub width : (i : ℕ) → i < length w → Width (at w i)
  pub bounded : (i : ℕ) → Bounded (at w i) (at t.lo i) (at t.hi i)
