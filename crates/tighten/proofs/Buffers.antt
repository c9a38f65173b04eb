-- The loops over work memory and words: what one more turn adds.
use mathlib.Core.Path.{◌≡◌, refl, ◌∙◌}
use mathlib.Core.List.{List, ◌++◌}
use Prim.Native.Nat.{ℕ, zero, suc, ◌+◌, ◌*◌, ◌≤◌, ◌<◌, ◌-◌}
use native.Mathlib.Numerals.{add-one}
use native.Mathlib.Omega.{arith}
use Rattle.std.proofs.lemmas.List.{get_or-append_right, get_or-take, length-append, length-drop, length-take-le}
use borrow.Rule.Slice.PartMut.{put_mid}
use lib.ListN.{length, set, take, drop, length-set, get_or-append}
use Rattle.lists.specs.Lists.{at}
use Rattle.tighten.specs.Memory.{Numbered, put_bounds}

-- ---- the rules listed

-- numbers from 0 on, written from 64 on
pub numbered_put : (c k : ℕ) (l xs : List ℕ) → k ≡ c → 64 + c ≤ length l → length xs ≡ c → ((j : ℕ) → j < c → at xs j ≡ j)
    → Numbered c l (put_mid 64 k l xs)
numbered_put c k l xs e room n each = record {
  size = simp (length-append, length-drop) (omega (arith, head));
  each = λ j h. get_or-append_right (take 64 l) (xs ++ drop k (drop 64 l)) 64 (64 + j) 0 head (omega arith) ∙ here j h;
  rest = λ i h. get_or-append (take 64 l) (xs ++ drop k (drop 64 l)) 0 i (omega (arith, head)) ∙ get_or-take 64 l i 0 h;
}
  where
    head : length (take 64 l) ≡ 64
    head = length-take-le 64 l (omega arith)

    here : (j : ℕ) → j < c → at (xs ++ drop k (drop 64 l)) (64 + j - 64) ≡ j
    here j h =
        let q : 64 + j - 64 ≡ j = omega arith in
        rw q (get_or-append xs (drop k (drop 64 l)) 0 j (omega arith) ∙ each j h)

-- ---- the bounds put back

pub put_length : (i : ℕ) (l ws : List ℕ) → length (put_bounds i l ws) ≡ length ws
unfolding put_bounds
put_length zero l ws = refl
put_length (suc i) l ws = simp length-set (put_length i l ws)

pub put_turn : (i : ℕ) (l ws us : List ℕ) → us ≡ put_bounds i l ws → set (set us (3 * i + 1) (at l i)) (3 * i + 2) (at l (i + 32)) ≡ put_bounds (i + 1) l ws
unfolding put_bounds
put_turn i l ws us e = rw (add-one i, e)
