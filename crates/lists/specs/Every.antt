-- To be believed: some element of a list, and every element of a list.
use Rattle.std.specs.Prelude.{◌≡◌, List, [], ◌∷◌, ℕ}

pub data Any {A : Type 0} (P : A → Type 0) : List A → Type 0 where
  here : {x : A} {l : List A} → P x → Any P (x ∷ l)
  there : {x : A} {l : List A} → Any P l → Any P (x ∷ l)

abbrev pub All : {A : Type 0} → (A → Type 0) → List A → Type 0
All P [] = Unit {0}
All P (x ∷ l) = P x × All P l

-- k is in a list
abbrev pub In : ℕ → List ℕ → Type 0
In k l = Any (λ m. k ≡ m) l
