-- To be believed: what digits are worth, the highest first; digit 0 is byte 48.
use Rattle.std.specs.Prelude.{List, [], ◌∷◌, ℕ, ◌+◌, ◌*◌, ◌-◌}

-- the digits ds of base b behind the number a
unfoldable pub behind : ℕ → ℕ → List ℕ → ℕ
behind b a [] = a
behind b a (d ∷ ds) = behind b (a * b + (d - 48)) ds

abbrev pub worth : ℕ → List ℕ → ℕ
worth b ds = behind b 0 ds
