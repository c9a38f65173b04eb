-- To be believed: little-endian numbers, as bytes.
use Rattle.std.specs.Prelude.{ℕ, zero, suc, ◌+◌, ◌*◌, ◌/◌, ◌%◌, List, [], ◌∷◌}

-- the k lowest bytes of x, the lowest first
unfoldable pub le : ℕ → ℕ → List ℕ
le zero x = []
le (suc k) x = x % 256 ∷ le k (x / 256)

-- the number that bytes make, the lowest first
unfoldable pub from_le : List ℕ → ℕ
from_le [] = 0
from_le (a ∷ r) = a + 256 * from_le r
