-- A number's bytes, a rule and the check of a block, put down.
use mathlib.Core.Path.{◌≡◌, refl, sym, ap, ◌∙◌}
use mathlib.Core.List.{List, [], ◌∷◌, ◌++◌}
use Prim.Native.Nat.{ℕ, ◌+◌, ◌*◌, ◌/◌, ◌%◌, ◌<◌, ◌≤◌, ◌-◌}
use native.Mathlib.Nat.{add-zero}
use native.Mathlib.Omega.{arith}
use lib.ListN.{length, take, drop, set, replicate, length-append, length-take, length-drop, length-set, length-replicate, get_or-append}
use lib.Seq.{drop-drop, set_split, get_or-append-add}
use borrow.Rule.Slice.PartMut.{put_mid}
use Rattle.std.specs.Int.{w16, w32, w64, to_le_bytes}
use Rattle.lists.specs.Lists.{at, part, put, zeros, flat}
use Rattle.problem.specs.Lent.{width_at, rule_at}
use Rattle.blocks.specs.Bytes.{le}
use Rattle.blocks.specs.Records.{word_record, rule_record}
use Rattle.blocks.specs.Block.{sum}
use Rattle.blocks.specs.Written.{seal}
use Rattle.lists.proofs.Parts.{at_part, length_part}
use Rattle.lists.proofs.Pieces.{at_zeros, length_zeros}
use Rattle.lists.proofs.Puts.{put_put}
use Rattle.blocks.proofs.Numbers.{length_le}
use Rattle.blocks.proofs.Items.{word_items, rule_item}

-- ---- a part lent and given back

-- it is put
pub part_put : (f ys : List ℕ) (a e k : ℕ) → e ≡ a + k → length ys ≡ k → put_mid a (e - a) f ys ≡ put f a ys
part_put f ys a e k q h = let z : e - a ≡ k = omega arith in rw (z, h, drop-drop) refl

pub zeros_put : (f ys : List ℕ) (a k : ℕ) → a + k ≤ length f → ys ≡ replicate (length (take (a + k - a) (drop a f))) 0
    → put_mid a (a + k - a) f ys ≡ put f a (zeros k)
unfolding zeros
zeros_put f ys a k room e =
    let n : length (take (a + k - a) (drop a f)) ≡ k = simp (length-take, length-drop) (omega arith) in
    let y : ys ≡ replicate k 0 = e ∙ ap (λ j. replicate j 0) n in
    part_put f ys a (a + k) k refl (ap length y ∙ length-replicate k 0) ∙ ap (put f a) y

-- ---- the bytes of a number

pub four_bytes : (x : ℕ) → to_le_bytes w32 x ≡ le 4 x
unfolding le
four_bytes x =
    let e2 : x / 256 / 256 ≡ x / 65536 = omega arith in
    let e3 : x / 65536 / 256 ≡ x / 16777216 = omega arith in
    rw (e2, e3) refl

pub eight_bytes : (x : ℕ) → to_le_bytes w64 x ≡ le 8 x
unfolding le
eight_bytes x =
    let e2 : x / 256 / 256 ≡ x / 65536 = omega arith in
    let e3 : x / 65536 / 256 ≡ x / 16777216 = omega arith in
    let e4 : x / 16777216 / 256 ≡ x / 4294967296 = omega arith in
    let e5 : x / 4294967296 / 256 ≡ x / 1099511627776 = omega arith in
    let e6 : x / 1099511627776 / 256 ≡ x / 281474976710656 = omega arith in
    let e7 : x / 281474976710656 / 256 ≡ x / 72057594037927936 = omega arith in
    rw (e2, e3, e4, e5, e6, e7) refl

-- ---- a word

-- its three numbers put
pub word_put : (f f₁ f₂ f₃ r₁ r₂ r₃ ws : List ℕ) (a j : ℕ) → a + 24 ≤ length f → width_at ws j < 256 → r₁ ≡ to_le_bytes w64 (at ws (3 * j))
    → r₂ ≡ to_le_bytes w64 (at ws (3 * j + 1)) → r₃ ≡ to_le_bytes w64 (at ws (3 * j + 2)) → f₁ ≡ put f a r₁ → f₂ ≡ put f₁ (a + 8) r₂
    → f₃ ≡ put f₂ (a + 16) r₃ → f₃ ≡ put f a (word_record ws j)
unfolding flat
word_put f f₁ f₂ f₃ r₁ r₂ r₃ ws a j room narrow d₁ d₂ d₃ e₁ e₂ e₃ =
    let x = le 8 (at ws (3 * j)) in
    let y = le 8 (at ws (3 * j + 1)) in
    let z = le 8 (at ws (3 * j + 2)) in
    let n = length_le 8 (at ws (3 * j)) in
    let m = length_le 8 (at ws (3 * j + 1)) in
    let k = length_le 8 (at ws (3 * j + 2)) in
    let l = length-append x y in
    let p : f₁ ≡ put f a x = e₁ ∙ ap (put f a) (d₁ ∙ eight_bytes (at ws (3 * j))) in
    let q : f₂ ≡ put f a (x ++ y) =
    e₂ ∙ ap (put f₁ (a + 8)) (d₂ ∙ eight_bytes (at ws (3 * j + 1))) ∙ ap (λ t. put t (a + 8) y) p ∙ put_put f a (a + 8) x y (omega arith) (omega arith) in
    e₃
    ∙ ap (put f₂ (a + 16)) (d₃ ∙ eight_bytes (at ws (3 * j + 2)))
    ∙ ap (λ t. put t (a + 16) z) q
    ∙ put_put f a (a + 16) (x ++ y) z (omega arith) (omega arith)
    ∙ ap (put f a) (three ∙ sym (word_items ws j narrow))
  where
    three : (le 8 (at ws (3 * j)) ++ le 8 (at ws (3 * j + 1))) ++ le 8 (at ws (3 * j + 2)) ≡ flat 3 (λ x. le 8 (at ws (3 * j + x)))
    three = ap (λ y. (le 8 (at ws y) ++ le 8 (at ws (3 * j + 1))) ++ le 8 (at ws (3 * j + 2))) (sym (add-zero (3 * j)))

-- ---- a rule

pub rule_bytes : (bs : List ℕ) (n : ℕ) → 6 * n + 6 ≤ length bs → part bs (6 * n) 6 ++ zeros 2 ≡ rule_record bs n
unfolding rule_record
rule_bytes bs n h =
    rule_item (part bs (6 * n) 6 ++ zeros 2) (rule_at bs n)
    (length-append (part bs (6 * n) 6) (zeros 2) ∙ rw (length_part bs (6 * n) 6 h, length_zeros 2))
    (field 0 (omega arith) ∙ ap (at bs) (add-zero (6 * n)))
    (field 1 (omega arith))
    (field 2 (omega arith))
    (field 3 (omega arith))
    (field 4 (omega arith))
    (field 5 (omega arith))
    (zero_at 0)
    (zero_at 1)
  where
    field : (x : ℕ) → x < 6 → at (part bs (6 * n) 6 ++ zeros 2) x ≡ at bs (6 * n + x)
    field x g =
        get_or-append (part bs (6 * n) 6) (zeros 2) 0 x (rw (length_part bs (6 * n) 6 h) g) ∙ at_part bs (6 * n) 6 x g

    zero_at : (x : ℕ) → at (part bs (6 * n) 6 ++ zeros 2) (6 + x) ≡ 0
    zero_at x =
        ap (λ k. at (part bs (6 * n) 6 ++ zeros 2) (k + x)) (sym (length_part bs (6 * n) 6 h))
        ∙ get_or-append-add (part bs (6 * n) 6) (zeros 2) x 0
        ∙ at_zeros 2 x

-- its six bytes put, then two zeros
pub rule_put : (f f₁ f₂ bs : List ℕ) (a n : ℕ) → a + 8 ≤ length f → 6 * n + 6 ≤ length bs
    → f₁ ≡ put f a (take (6 * n + 6 - 6 * n) (drop (6 * n) bs)) → f₂ ≡ put f₁ (a + 6) (zeros 2) → f₂ ≡ put f a (rule_record bs n)
unfolding part
rule_put f f₁ f₂ bs a n room h e₁ e₂ =
    let z : 6 * n + 6 - 6 * n ≡ 6 = omega arith in
    let p : f₁ ≡ put f a (part bs (6 * n) 6) = rw z at e₁ in
    let k = length_part bs (6 * n) 6 h in
    let m = length_zeros 2 in
    e₂
    ∙ ap (λ t. put t (a + 6) (zeros 2)) p
    ∙ put_put f a (a + 6) (part bs (6 * n) 6) (zeros 2) (ap (λ j. a + j) k) (rw m (omega arith))
    ∙ ap (put f a) (rule_bytes bs n h)

-- ---- the check

-- two bytes
two_put : (b : List ℕ) (u v : ℕ) → length b ≡ 512 → set (set b 6 u) 7 v ≡ put b 6 (u ∷ v ∷ [])
two_put b u v n =
    set_split (set b 6 u) 7 v (simp length-set (omega arith))
    ∙ ap (λ t. put t 7 (v ∷ [])) (set_split b 6 u (omega arith))
    ∙ put_put b 6 7 (u ∷ []) (v ∷ []) refl (omega arith)

pub sealed : (b c r : List ℕ) (s : ℕ) → b ≡ c → s ≡ sum b % 65536 → length b ≡ 512 → r ≡ put b 6 (to_le_bytes w16 (65535 - s)) → r ≡ seal c
unfolding seal
sealed b c r s e h n q =
    let high : (65535 - s) / 256 % 256 ≡ (65535 - s) / 256 = omega arith in
    let two : put b 6 (to_le_bytes w16 (65535 - s)) ≡ set (set b 6 ((65535 - s) % 256)) 7 ((65535 - s) / 256) =
    rw high (sym (two_put b ((65535 - s) % 256) ((65535 - s) / 256) n)) in
    let same : set (set b 6 ((65535 - s) % 256)) 7 ((65535 - s) / 256) ≡ seal c = rw (h, e) refl in
    q ∙ two ∙ same
