-- To be believed: the places of a rule, and the fourteen kinds by their numbers.
use Rattle.std.specs.Prelude.{[], ◌∷◌, ℕ, ◌-◌, get_or}

-- the places of a rule: its fields r, a, b and s
pub data Place : Type 0 where
  R A B S : Place

-- the kinds that compute their word r, 1 to 11
pub data Op : Type 0 where
  COPY NOT AND OR XOR ADD ITE SLICE JOIN SHL SHR : Op

-- the kinds that compare a and b, 12 to 14
pub data Rel : Type 0 where
  ULE ULT NE : Rel

pub data Kind : Type 0 where
  op : Op → Kind
  rel : Rel → Kind

-- kinds by their numbers, from 1; a number that is no kind's is refused before its kind is asked for
unfoldable pub kind_of : ℕ → Kind
kind_of n =
    get_or
    (op COPY ∷ op NOT ∷ op AND ∷ op OR ∷ op XOR ∷ op ADD ∷ op ITE ∷ op SLICE ∷ op JOIN ∷ op SHL ∷ op SHR ∷ rel ULE ∷ rel ULT ∷ rel NE ∷ [])
    (n - 1)
    (rel NE)
