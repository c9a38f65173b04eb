-- Records put one after the other behind a header, and a block made whole.
use mathlib.Core.Path.{◌≡◌, refl, sym, ap, ◌∙◌}
use mathlib.Core.List.{List, [], ◌++◌}
use Prim.Native.Nat.{ℕ, suc, ◌+◌, ◌*◌, ◌<◌, ◌≤◌, ◌-◌}
use native.Mathlib.Nat.{mul-suc}
use native.Mathlib.Numerals.{add-one}
use native.Mathlib.Omega.{arith}
use lib.ListN.{length, length-append}
use Rattle.lists.specs.Lists.{put, zeros, flat}
use Rattle.blocks.specs.Bytes.{le}
use Rattle.blocks.specs.Edition.{Form, edition1}
use Rattle.blocks.specs.Fair.{FormFits}
use Rattle.blocks.specs.Written.{seal, headed, block}
use Rattle.lists.proofs.Pieces.{flat_none, flat_more, length_flat, length_zeros}
use Rattle.lists.proofs.Puts.{put_none, put_put, put_whole}
use Rattle.blocks.proofs.Fair.{in_block}

-- ---- pieces of s bytes from place a on, one a turn

pub flat_start : (f : List ℕ) (a : ℕ) (bytes : ℕ → List ℕ) → f ≡ put f a (flat 0 bytes)
flat_start f a bytes = sym (ap (put f a) (flat_none bytes) ∙ put_none f a)

pub flat_turn : (f g r : List ℕ) (a e s j : ℕ) (bytes : ℕ → List ℕ) → ((i : ℕ) → length (bytes i) ≡ s) → e ≡ a + s * j → e + s ≤ length f
    → g ≡ put f a (flat j bytes) → r ≡ put g e (bytes j) → r ≡ put f a (flat (j + 1) bytes)
flat_turn f g r a e s j bytes sized q room x d =
    let n = length_flat j s bytes (λ i h. sized i) in
    rw (add-one, flat_more j bytes)
    (d ∙ ap (λ t. put t e (bytes j)) x ∙ put_put f a e (flat j bytes) (bytes j) (omega arith) (omega (arith, sized j)))

-- ---- header, records, zeros and check make a block

pub block_put : (f f₁ f₂ r : List ℕ) (kind i c a : ℕ) (t : List ℕ) → length f ≡ 512 → length t ≤ 504 → a ≡ 8 + length t
    → f₁ ≡ put f 0 (headed edition1 kind i c []) → f₂ ≡ put f₁ 8 t → r ≡ seal (put f₂ a (zeros (512 - a))) → r ≡ block edition1 kind i c t
unfolding block headed le
block_put f f₁ f₂ r kind i c a t long room ea e₁ e₂ e₃ =
    let h = headed edition1 kind i c [] in
    let z : 512 - a ≡ 504 - length t = omega arith in
    let n = length_zeros (512 - a) in
    let p : f₂ ≡ put f 0 (h ++ t) = e₂ ∙ ap (λ x. put x 8 t) e₁ ∙ put_put f 0 8 h t refl (omega arith) in
    let m : length (h ++ t) ≡ 8 + length t = length-append h t in
    let q : put f₂ a (zeros (512 - a)) ≡ put f 0 ((h ++ t) ++ zeros (512 - a)) =
    ap (λ x. put x a (zeros (512 - a))) p ∙ put_put f 0 a (h ++ t) (zeros (512 - a)) (omega arith) (omega arith) in
    let l : length ((h ++ t) ++ zeros (512 - a)) ≡ length f = length-append (h ++ t) (zeros (512 - a)) ∙ omega arith in
    e₃ ∙ ap seal (q ∙ put_whole f ((h ++ t) ++ zeros (512 - a)) l ∙ ap (λ x. headed edition1 kind i c (t ++ zeros x)) z)

-- ---- records of one form

module _ {F : Form} (fits : FormFits F) {size : ℕ} (bytes : ℕ → List ℕ) (sized : (i : ℕ) → length (bytes i) ≡ F.size) (is : size ≡ F.size) where
  -- record j has room after the header
  pub record_room : (j c : ℕ) → j < c → c ≤ F.most → 8 + size * j + size ≤ 512
  record_room j c h l = omega (arith, in_block fits (suc j) (omega arith), mul-suc F.size j, ap (λ s. s * j) is)

  pub record_turn : (f g r : List ℕ) (j c : ℕ) → length f ≡ 512 → j < c → c ≤ F.most → g ≡ put f 8 (flat j bytes) → r ≡ put g (8 + size * j) (bytes j)
      → r ≡ put f 8 (flat (j + 1) bytes)
  record_turn f g r j c n h l e d =
      flat_turn f g r 8 (8 + size * j) size j bytes (λ i. sized i ∙ sym is) refl (omega (arith, record_room j c h l)) e d

  pub records_put : (f f₁ f₂ r : List ℕ) (kind k i j c : ℕ) → length f ≡ 512 → k ≡ kind → j ≡ c → c ≤ F.most → f₁ ≡ put f 0 (headed edition1 k i c [])
      → f₂ ≡ put f₁ 8 (flat j bytes) → r ≡ seal (put f₂ (8 + size * c) (zeros (512 - (8 + size * c)))) → r ≡ block edition1 kind i c (flat c bytes)
  records_put f f₁ f₂ r kind k i j c n p q l e₁ e₂ e₃ =
      let t : length (flat c bytes) ≡ size * c = length_flat c size bytes (λ x h. sized x ∙ sym is) in
      let m : size * c ≤ 504 = rw is (in_block fits c l) in
      block_put f f₁ f₂ r k i c (8 + size * c) (flat c bytes) n (omega arith) (omega arith) e₁ (rw q at e₂) e₃
      ∙ ap (λ x. block edition1 x i c (flat c bytes)) p
