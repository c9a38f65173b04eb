-- To be believed: what reading a number promises. What was read is the text of the number; where none is read there is none.
use Rattle.std.specs.Prelude.{◌≡◌, List, ◌++◌, ℕ, ◌^◌, ◌≤◌, ◌<◌, length, drop, Option, Some, None}
use Rattle.decimal.specs.Text.{decimal}
use Rattle.decimal.specs.Digits.{Stops}

-- the bytes of s from at to e are the number v, and no digit follows
pub record NumberAt (s : List ℕ) (at v e : ℕ) : Type 0 where
  pub after : at < e
  pub within : e ≤ length s
  pub small : v < 2 ^ 64
  pub text : drop at s ≡ decimal v ++ drop e s
  pub stops : Stops (drop e s)

-- no number stands at `at`
abbrev pub NoNumber : List ℕ → ℕ → Type 0
NoNumber s at = (v : ℕ) (t : List ℕ) → v < 2 ^ 64 → Stops t → ¬ (drop at s ≡ decimal v ++ t)

abbrev pub IsNumber : List ℕ → ℕ → Option (ℕ × ℕ) → Type 0
IsNumber s at (Some (v, e)) = NumberAt s at v e
IsNumber s at None = NoNumber s at
