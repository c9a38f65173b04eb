-- To be believed: digits, as bytes.
-- Mirrors code: `digit_of`.
use Rattle.std.specs.Prelude.{List, [], ◌∷◌, ℕ, ◌+◌, ◌*◌, ◌≤◌, min, ◌-◌}

-- a byte that is a digit
pub record Digit (x : ℕ) : Type 0 where
  pub low : 48 ≤ x
  pub high : x ≤ 57

-- what a byte stands for as a digit, 10 where it is none
abbrev pub digit_of : ℕ → ℕ
digit_of x = min 10 (x - 48 + 10 * (48 - x))

-- the text does not begin with a digit
abbrev pub Stops : List ℕ → Type 0
Stops [] = Unit {0}
Stops (x ∷ xs) = ¬ Digit x
