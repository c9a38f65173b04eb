-- A list with one element more at its end.
use mathlib.Core.Path.{◌≡◌, sym, ◌∙◌}
use mathlib.Core.List.{List, [], ◌∷◌, ◌++◌}
use Prim.Native.Nat.{ℕ, suc, ◌<◌}
use native.Mathlib.Omega.{arith}
use native.Mathlib.Decide.{dec_lt, ℕ_discrete}
use lib.ListN.{length, get_or, length-append, get_or-append, get_or-eq_default}
use lib.Seq.{get_or_at}
use Rattle.lists.specs.Lists.{at}

module _ {A : Type 0} where
  pub length_more : (l : List A) (x : A) → length (l ++ (x ∷ [])) ≡ suc (length l)
  length_more l x = omega (arith, length-append l (x ∷ []))

  pub at_low : (l : List A) (x d : A) (i : ℕ) → i < length l → get_or (l ++ (x ∷ [])) i d ≡ get_or l i d
  at_low l x d i h = get_or-append l (x ∷ []) d i h

  pub at_new : (l : List A) (x d : A) (i : ℕ) → i ≡ length l → get_or (l ++ (x ∷ [])) i d ≡ x
  at_new l x d i e = get_or_at l x [] d i (sym e)

  -- a fact of each element and of the one more
  pub each_more : (P : A → Type 0) (l : List A) (x d : A) → ((n : ℕ) → n < length l → P (get_or l n d)) → P x
      → (n : ℕ) → n < length (l ++ (x ∷ [])) → P (get_or (l ++ (x ∷ [])) n d)
  each_more P l x d h p n k = go (dec_lt n (length l))
    where
      go : Dec (n < length l) → P (get_or (l ++ (x ∷ [])) n d)
      go (yes a) = rw (at_low l x d n a) (h n a)
      go (no a) = rw (at_new l x d n (omega (arith, length_more l x))) p

-- a fact of three numbers at each index, where lists as long have one more each; past the end stand zeros
pub triples_more : (P : ℕ → ℕ → ℕ → Type 0) (l m n : List ℕ) (x y z : ℕ) → length m ≡ length l → length n ≡ length l
    → ((i : ℕ) → P (at l i) (at m i) (at n i)) → P x y z → (i : ℕ) → P (at (l ++ (x ∷ [])) i) (at (m ++ (y ∷ [])) i) (at (n ++ (z ∷ [])) i)
triples_more P l m n x y z em en h p i = go (dec_lt i (length l)) (ℕ_discrete i (length l))
  where
    past : (k : List ℕ) (a : ℕ) → length k ≡ length l → length l < i → at (k ++ (a ∷ [])) i ≡ at k i
    past k a e o =
        get_or-eq_default (k ++ (a ∷ [])) 0 (omega (arith, length_more k a))
        ∙ sym (get_or-eq_default k 0 (omega arith))

    go : Dec (i < length l) → Dec (i ≡ length l) → P (at (l ++ (x ∷ [])) i) (at (m ++ (y ∷ [])) i) (at (n ++ (z ∷ [])) i)
    go (yes a) d = rw (at_low l x 0 i a, at_low m y 0 i (omega arith), at_low n z 0 i (omega arith)) (h i)
    go (no a) (yes e) = rw (at_new l x 0 i e, at_new m y 0 i (omega arith), at_new n z 0 i (omega arith)) p
    go (no a) (no b) = rw (past l x (omega arith) (omega arith), past m y em (omega arith), past n z en (omega arith)) (h i)
