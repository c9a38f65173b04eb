-- To be believed: parts of a list, lists put into a list, series, pieces one after the other, and numbers added up.
use Rattle.std.specs.Prelude.{List, [], ◌∷◌, ◌++◌, ℕ, zero, suc, ◌+◌, ◌<◌, length, take, drop, replicate, get_or}

-- what stands at i; past the end of a list stands 0
abbrev pub at : List ℕ → ℕ → ℕ
at l i = get_or l i 0

-- every number of the list is below k
pub record Under (k : ℕ) (l : List ℕ) : Type 0 where
  pub each : (i : ℕ) → at l i < k

-- k numbers of the list, from place a on
unfoldable pub part : List ℕ → ℕ → ℕ → List ℕ
part l a k = take k (drop a l)

-- the list with xs put at place a; the rest stays as it was
abbrev pub put : List ℕ → ℕ → List ℕ → List ℕ
put l a xs = take a l ++ (xs ++ drop (a + length xs) l)

unfoldable pub zeros : ℕ → List ℕ
zeros k = replicate k 0

-- the list f 0, f 1, .. f (n - 1)
unfoldable pub series : {A : Type 0} → ℕ → (ℕ → A) → List A
series zero f = []
series (suc n) f = f 0 ∷ series n (λ i. f (suc i))

-- f 0, f 1, .. f (n - 1), one after the other
unfoldable pub flat : ℕ → (ℕ → List ℕ) → List ℕ
flat zero f = []
flat (suc n) f = flat n f ++ f n

-- g 0 + g 1 + .. + g (n - 1)
unfoldable pub total : ℕ → (ℕ → ℕ) → ℕ
total zero g = 0
total (suc n) g = total n g + g n
