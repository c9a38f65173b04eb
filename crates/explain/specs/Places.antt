-- To be believed: the places of a rule by their numbers: 0 r, 1 a, 2 b, 3 s.
use Rattle.std.specs.Prelude.{[], ◌∷◌, ℕ, get_or}
use Rattle.rules.specs.Kinds.{Place, R, A, B, S}

-- the number of the last place
abbrev pub last : ℕ
last = 3

-- a number past the last place's is refused before its place is asked for
unfoldable pub place_of : ℕ → Place
place_of n = get_or (R ∷ A ∷ B ∷ []) n S
