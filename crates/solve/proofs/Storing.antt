-- Settings put into a model, number by number.
use mathlib.Core.Path.{◌≡◌, refl, sym, ◌∙◌}
use mathlib.Core.List.{List}
use Prim.Native.Nat.{ℕ, ◌+◌, ◌<◌}
use native.Mathlib.Omega.{arith}
use native.Mathlib.Decide.{ℕ_discrete, dec_lt}
use lib.ListN.{length, set, length-set}
use lib.Seq.{ext_get_or, get_or-set_same, get_or-set_other}
use Rattle.lists.specs.Lists.{at}
use Rattle.solve.specs.Promise.{Stored}

pub stored_start : (v m : List ℕ) → Stored 0 v m m
stored_start v m = record { size = refl; each = λ i h. absurd (omega arith); rest = λ i h. refl }

pub stored_turn : {i : ℕ} {v m m' : List ℕ} → Stored i v m m' → i < length m → Stored (i + 1) v m (set m' i (at v i))
stored_turn {i} {v} {m} {m'} x room = record {
  size = length-set m' i (at v i) ∙ x.size;
  each = λ k h. go k h (ℕ_discrete k i);
  rest = λ k h. get_or-set_other m' i k (at v i) 0 (omega arith) ∙ x.rest k (omega arith);
}
  where
    go : (k : ℕ) → k < i + 1 → Dec (k ≡ i) → at (set m' i (at v i)) k ≡ at v k
    go k h (yes e) = rw e (get_or-set_same m' i (at v i) 0 (omega (arith, x.size)))
    go k h (no d) = get_or-set_other m' i k (at v i) 0 d ∙ x.each k (omega arith)

-- what is stored is fixed by the numbers stored
pub stored_once : {n : ℕ} {v w m a b : List ℕ} → ((i : ℕ) → i < n → at v i ≡ at w i) → Stored n v m a → Stored n w m b → a ≡ b
stored_once {n} {v} {w} {m} {a} {b} same x y = ext_get_or 0 a b (x.size ∙ sym y.size) (λ i h. go i (dec_lt i n))
  where
    go : (i : ℕ) → Dec (i < n) → at a i ≡ at b i
    go i (yes h) = x.each i h ∙ same i h ∙ sym (y.each i h)
    go i (no h) = x.rest i (omega arith) ∙ sym (y.rest i (omega arith))
