-- Text appended piece by piece, and the numbers of a list piece by piece.
use mathlib.Core.Path.{◌≡◌, refl, sym, ap, ◌∙◌}
use mathlib.Core.List.{List, [], ◌∷◌, ◌++◌, append_assoc, append-nil}
use Prim.Native.Nat.{ℕ, ◌+◌, ◌<◌, ◌≤◌}
use native.Mathlib.Nat.{add-zero}
use native.Mathlib.Numerals.{add-one}
use native.Mathlib.Omega.{arith}
use lib.ListN.{length, set, length-append, take-append-drop}
use lib.Seq.{set_split}
use Rattle.lists.proofs.Puts.{length_put, put_put}
use Rattle.decimal.specs.Text.{decimal, spaced}
use Rattle.lists.specs.Lists.{put, at}
use Rattle.decimal.specs.Putting.{Appended}

-- what is appended leaves the length as it was
pub appended_length : {l xs m : List ℕ} {at e : ℕ} → Appended l at xs m e → length m ≡ length l
appended_length {l} {xs} {m} {at} {e} f = ap length f.text ∙ length_put l at xs (omega (arith, f.ends, f.room))

pub appended_none : (l : List ℕ) (at : ℕ) → at ≤ length l → Appended l at [] l at
appended_none l at h = record { ends = omega arith; room = h; text = sym (rw add-zero (take-append-drop at l)) }

pub appended_byte : (l : List ℕ) (at x : ℕ) → at < length l → Appended l at (x ∷ []) (set l at x) (at + 1)
appended_byte l at x h = record { ends = refl; room = omega arith; text = rw add-one (set_split l at x h) }

pub appended_both : {l xs m ys n : List ℕ} {at e r : ℕ} → Appended l at xs m e → Appended m e ys n r → Appended l at (xs ++ ys) n r
appended_both {l} {xs} {m} {ys} {n} {at} {e} {r} f g =
    let long = appended_length f in
    record {
      ends = omega (arith, f.ends, g.ends, length-append xs ys);
      room = omega (arith, g.room, long);
      text = g.text ∙ ap (λ (t : List ℕ). put t e ys) f.text ∙ put_put l at e xs ys (sym f.ends) (omega (arith, g.ends, g.room, long));
    }

pub spaced_none : spaced [] ≡ []
unfolding spaced
spaced_none = refl

-- one more number
pub spaced_more : (ns : List ℕ) (n : ℕ) → spaced (ns ++ (n ∷ [])) ≡ spaced ns ++ (32 ∷ decimal n)
unfolding spaced
spaced_more [] n = append-nil (32 ∷ decimal n)
spaced_more (m ∷ ns) n = rw (spaced_more ns n) (sym (append_assoc (32 ∷ decimal m) (spaced ns) (32 ∷ decimal n)))
