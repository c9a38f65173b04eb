-- To be believed: the ceiling of a problem.
use Rattle.std.specs.Prelude.{◌≡◌, List, ℕ, suc, ◌^◌, ◌≤◌}
use Rattle.words.specs.Table.{Table}
use Rattle.words.specs.Count.{open_below}
use Rattle.rules.specs.Tight.{Rule}
use Rattle.rules.specs.Inputs.{Inputs}

-- c is the ceiling where t tightens to u: 2^B - 1, B being the open bits in u of the inputs, as few words as may be called so
pub record Ceiling (rs : List Rule) (t u : Table) (c : ℕ) : Type 0 where
  pub words : ℕ
  pub inputs : Inputs rs t words
  pub least : (m : ℕ) → Inputs rs t m → words ≤ m
  pub number : suc c ≡ 2 ^ open_below words u
