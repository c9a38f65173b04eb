-- What one turn of each loop that puts text comes to.
use mathlib.Core.Path.{◌≡◌, ap, ◌∙◌}
use mathlib.Core.List.{List, [], ◌∷◌, ◌++◌}
use Prim.Native.Nat.{ℕ, zero, suc, ◌+◌, ◌*◌, ◌/◌, ◌%◌, ◌^◌, ◌≤◌, ◌<◌}
use native.Mathlib.Nat.{mul-suc}
use native.Mathlib.Numerals.{add-one}
use native.Mathlib.Omega.{arith}
use lib.ListN.{length, take, set, get_or, length-append, length-take}
use lib.Seq.{take-suc}
use Rattle.std.specs.List.{AllZip, each_same}
use Rattle.std.proofs.lemmas.Slice.Zip.{AllZip-long}
use Rattle.decimal.specs.Text.{decimal, spaced}
use Rattle.decimal.specs.Putting.{Appended, RoomFor, Spaced}
use Rattle.decimal.proofs.Decimals.{decimal_one, decimal_more, decimal_length}
use Rattle.decimal.proofs.Appends.{appended_none, appended_byte, appended_both, spaced_none, spaced_more}

-- ---- a number

pub digit_put : (l : List ℕ) (at n : ℕ) → n < 10 → at < length l → Appended l at (decimal n) (set l at (48 + n)) (at + 1)
digit_put l at n h room = rw (decimal_one n h) (appended_byte l at (48 + n) room)

pub digit_behind : {l m : List ℕ} {at e : ℕ} (n : ℕ) → Appended l at (decimal (n / 10)) m e → 10 ≤ n → n < 2 ^ 64 → e < length m
    → Appended l at (decimal n) (set m e (48 + n % 10)) (e + 1)
digit_behind {l} {m} {at} {e} n f h small room = rw (decimal_more n h small) (appended_both f (appended_byte m e (48 + n % 10) room))

-- ---- numbers

-- where the digits of each number are at most b
pub spaced_long : (b : ℕ) (ns : List ℕ) → ((i : ℕ) → length (decimal (get_or ns i 0)) ≤ b) → length (spaced ns) ≤ (b + 1) * length ns
unfolding spaced
spaced_long b [] h = omega arith
spaced_long b (n ∷ ns) h =
    omega (arith, spaced_long b ns (λ i. h (suc i)), h 0, length-append (decimal n) (spaced ns), mul-suc (b + 1) (length ns))

zip_push : {A : Type 0} (R : A → ℕ → Type 0) (xs : List A) (ns : List ℕ) (x : A) (n : ℕ) → AllZip R xs ns → R x n → AllZip R (xs ++ (x ∷ [])) (ns ++ (n ∷ []))
zip_push R [] [] x n a h = (h, tt)
zip_push R (y ∷ xs) (m ∷ ns) x n a h = (a.0, zip_push R xs ns x n a.1 h)
zip_push R [] (m ∷ ns) x n a h = absurd a
zip_push R (y ∷ xs) [] x n a h = absurd a

-- 21 bytes to a number always do
pub room_for : {A : Type 0} (R : A → ℕ → Type 0) (l : List ℕ) (at : ℕ) (xs : List A) → at + 21 * length xs ≤ length l → RoomFor R l at xs
room_for R l at xs h k ns a =
    omega (arith, spaced_long 20 ns (λ i. decimal_length (get_or ns i 0)), AllZip-long R (take k xs) ns a, length-take k xs)

module _ {A : Type 0} {R : A → ℕ → Type 0} {l : List ℕ} {at : ℕ} where
  pub spaced_end : {m : List ℕ} {e : ℕ} (xs : List A) → Spaced R l at xs m e → e ≤ at + 21 * length xs
  spaced_end xs s =
      omega (arith, s.there.ends, spaced_long 20 s.numbers (λ i. decimal_length (get_or s.numbers i 0)), AllZip-long R xs s.numbers s.each)

  pub spaced_start : (xs : List A) → RoomFor R l at xs → Spaced R l at [] l at
  spaced_start xs room =
      let n : spaced [] ≡ [] = spaced_none in
      record { numbers = []; each = tt; there = rw n (appended_none l at (omega (arith, room 0 [] tt))) }

  module _ {m : List ℕ} {e : ℕ} (xs : List A) {i n : ℕ} {x : A} (s : Spaced R l at (take i xs) m e) (h : i < length xs) (is : x ≡ get_or xs i x)
      (r : R x n) where
    one_more : AllZip R (take (i + 1) xs) (s.numbers ++ (n ∷ []))
    one_more = rw (add-one i, take-suc xs i x h, ← is) (zip_push R (take i xs) s.numbers x n s.each r)

    pub spaced_room : RoomFor R l at xs → length m ≡ length l → e + 1 + length (decimal n) ≤ length m
    spaced_room room q =
        let long : length (spaced (s.numbers ++ (n ∷ []))) ≡ length (spaced s.numbers) + length (32 ∷ decimal n) =
        ap length (spaced_more s.numbers n) ∙ length-append (spaced s.numbers) (32 ∷ decimal n) in
        omega (arith, room (i + 1) (s.numbers ++ (n ∷ [])) one_more, s.there.ends)

    pub spaced_turn : {q : List ℕ} {f : ℕ} → Appended (set m e 32) (e + 1) (decimal n) q f → e < length m → Spaced R l at (take (i + 1) xs) q f
    spaced_turn g room = record {
      numbers = s.numbers ++ (n ∷ []);
      each = one_more;
      there = rw spaced_more (appended_both s.there (appended_both (appended_byte m e 32 room) g));
    }

-- ---- numbers that stand for themselves

spaced_front : (k : ℕ) (ns : List ℕ) → length (spaced (take k ns)) ≤ length (spaced ns)
unfolding spaced
spaced_front zero ns = omega arith
spaced_front (suc k) [] = omega arith
spaced_front (suc k) (n ∷ ns) =
    omega (arith, spaced_front k ns, length-append (decimal n) (spaced (take k ns)), length-append (decimal n) (spaced ns))

-- room for all of them does for the first of them
pub room_for_same : (l : List ℕ) (at : ℕ) (ns : List ℕ) → at + length (spaced ns) ≤ length l → RoomFor (λ x y. y ≡ x) l at ns
room_for_same l at ns h k ms a =
    let same : ms ≡ take k ns = each_same (take k ns) ms a in
    rw same (omega (arith, spaced_front k ns))

pub spaced_same : {l m : List ℕ} {at e : ℕ} (ns : List ℕ) → Spaced (λ x y. y ≡ x) l at ns m e → Appended l at (spaced ns) m e
spaced_same ns s = let same : s.numbers ≡ ns = each_same ns s.numbers s.each in rw same at s.there
