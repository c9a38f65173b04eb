-- Numbers put at a place of a list: one a turn, and one list after the other.
use mathlib.Core.Path.{◌≡◌, sym, ap, ◌∙◌}
use mathlib.Core.List.{List, [], ◌∷◌, ◌++◌, append_assoc, append-nil}
use Prim.Native.Nat.{ℕ, ◌+◌, ◌<◌, ◌≤◌}
use native.Mathlib.Nat.{add-zero}
use native.Mathlib.Numerals.{add-one}
use native.Mathlib.Omega.{arith}
use lib.ListN.{length, take, drop, set, length-append, length-take, length-drop, take-append-drop}
use lib.Seq.{set_split, take_at, drop_at, drop-drop, length-take-le, drop-length}
use Rattle.lists.specs.Lists.{put}

pub put_none : (f : List ℕ) (a : ℕ) → put f a [] ≡ f
put_none f a = rw add-zero (take-append-drop a f)

put_one : (f : List ℕ) (a v : ℕ) → a < length f → set f a v ≡ put f a (v ∷ [])
put_one f a v h = rw add-one (set_split f a v h)

pub length_put : (f : List ℕ) (a : ℕ) (xs : List ℕ) → a + length xs ≤ length f → length (put f a xs) ≡ length f
length_put f a xs h = simp (length-append, length-take, length-drop) (omega arith)

-- a list put behind a list
pub put_put : (f : List ℕ) (a e : ℕ) (xs ys : List ℕ) → a + length xs ≡ e → e + length ys ≤ length f → put (put f a xs) e ys ≡ put f a (xs ++ ys)
put_put f a e xs ys q h =
    let head = take a f ++ xs in
    let n : length head ≡ e = length-append (take a f) xs ∙ rw (length-take-le a f (omega arith)) q in
    let p : put f a xs ≡ head ++ drop e f = sym (append_assoc (take a f) xs (drop (a + length xs) f)) ∙ ap (λ k. head ++ drop k f) q in
    let t : take e (put f a xs) ≡ head = ap (take e) p ∙ take_at head (drop e f) e n in
    let d : drop (e + length ys) (put f a xs) ≡ drop (e + length ys) f =
    sym (drop-drop (length ys) e (put f a xs)) ∙ ap (drop (length ys)) (ap (drop e) p ∙ drop_at head (drop e f) e n) ∙ drop-drop (length ys) e f in
    let l : a + length (xs ++ ys) ≡ e + length ys = ap (λ k. a + k) (length-append xs ys) ∙ omega arith in
    ap (λ z. z ++ (ys ++ drop (e + length ys) (put f a xs))) t
    ∙ ap (λ z. head ++ (ys ++ z)) (d ∙ ap (λ k. drop k f) (sym l))
    ∙ append_assoc (take a f) xs (ys ++ drop (a + length (xs ++ ys)) f)
    ∙ ap (λ z. take a f ++ z) (sym (append_assoc xs ys (drop (a + length (xs ++ ys)) f)))

-- ---- what was put is there

-- what was put in front is there
pub put_take : (a xs : List ℕ) (k : ℕ) → length xs ≡ k → take k (put a 0 xs) ≡ xs
put_take a xs k e = take_at xs (drop (0 + length xs) a) k e

pub put_whole : (f xs : List ℕ) → length xs ≡ length f → put f 0 xs ≡ xs
put_whole f xs h = let z : 0 + length xs ≡ length f = omega arith in rw (z, drop-length, append-nil)
