-- One block as bytes: its length, its sum, its header, what follows it; and a sound block is the block of its own fields.
use Rattle.std.proofs.Common.{◌≡◌, ℕ, ◌+◌, ◌-◌, ◌*◌, ◌/◌, ◌%◌, ◌<◌, ◌≤◌, ◌≢◌, List}
use Rattle.std.proofs.Common.{◌∷◌, ◌++◌, length, drop, sym, refl, ap, ◌∙◌, arith, length-append, drop-cons}
use Rattle.lists.specs.Lists.{at, zeros, Under}
use Rattle.blocks.specs.Bytes.{le}
use Rattle.blocks.specs.Edition.{Edition}
use Rattle.blocks.specs.Block.{Sound, Header}
use Rattle.blocks.specs.Written.{seal, headed, block}
use Rattle.lists.proofs.Pieces.{length_zeros}
use Rattle.blocks.proofs.Numbers.{low_byte, high_byte}
use Rattle.blocks.proofs.Seal.{checked, at_other, seal_sound, seal_blank}

two_bytes : (c : ℕ) → c < 65536 → c % 256 + 256 * (c / 256 % 256) ≡ c
two_bytes c h = omega arith

module _ (E : Edition) (kind i c : ℕ) (t : List ℕ) where
  pub length_block : length t ≤ 504 → length (block E kind i c t) ≡ 512
  unfolding block headed seal le
  length_block h = simp (length-append, length_zeros) (omega arith)

  block_sound : Sound (block E kind i c t)
  unfolding block headed le
  block_sound = seal_sound (headed E kind i c (t ++ zeros (504 - length t))) (omega arith) refl refl

  -- every byte but the check's
  block_byte : (j : ℕ) → j ≢ 6 → j ≢ 7 → at (block E kind i c t) j ≡ at (headed E kind i c (t ++ zeros (504 - length t))) j
  unfolding block headed seal le
  block_byte j p q = at_other (headed E kind i c (t ++ zeros (504 - length t))) (omega arith) _ _ j p q

  -- what follows the header
  pub block_rest : drop 8 (block E kind i c t) ≡ t ++ zeros (504 - length t)
  unfolding block headed seal le
  block_rest = refl

  pub block_header : i < 65536 → c < 65536 → Header E kind i c (block E kind i c t)
  unfolding headed le
  block_header hi hc = record {
    kind_is = block_byte 0 (λ z. omega arith) (λ z. omega arith);
    edition_is = block_byte 1 (λ z. omega arith) (λ z. omega arith);
    number_is = rw (block_byte 2 (λ z. omega arith) (λ z. omega arith), block_byte 3 (λ z. omega arith) (λ z. omega arith)) (two_bytes i hi);
    count_is = rw (block_byte 4 (λ z. omega arith) (λ z. omega arith), block_byte 5 (λ z. omega arith) (λ z. omega arith)) (two_bytes c hc);
    sound = block_sound;
  }

-- a list of eight or more, taken apart
pub eight : (b : List ℕ) → 8 ≤ length b → b ≡ at b 0 ∷ at b 1 ∷ at b 2 ∷ at b 3 ∷ at b 4 ∷ at b 5 ∷ at b 6 ∷ at b 7 ∷ drop 8 b
eight b h =
    cc (
      drop-cons b 0 0 (omega arith),
      drop-cons b 1 0 (omega arith),
      drop-cons b 2 0 (omega arith),
      drop-cons b 3 0 (omega arith),
      drop-cons b 4 0 (omega arith),
      drop-cons b 5 0 (omega arith),
      drop-cons b 6 0 (omega arith),
      drop-cons b 7 0 (omega arith),
    )

pub header_block : (E : Edition) (kind i c : ℕ) (b t : List ℕ) → length b ≡ 512 → Under 256 b → Header E kind i c b
    → drop 8 b ≡ t ++ zeros (504 - length t) → b ≡ block E kind i c t
unfolding block headed le
header_block E kind i c b t long u h e =
    let apart = ap (λ (l : List ℕ). checked l 0 0) (eight b (omega arith)) in
    let k0 : at b 0 ≡ kind = h.kind_is in
    let k1 : at b 1 ≡ E.number = h.edition_is in
    let k2 : at b 2 ≡ i % 256 = low_byte _ _ i (u.each 2) h.number_is in
    let k3 : at b 3 ≡ i / 256 % 256 = high_byte _ _ i (u.each 2) (u.each 3) h.number_is in
    let k4 : at b 4 ≡ c % 256 = low_byte _ _ c (u.each 4) h.count_is in
    let k5 : at b 5 ≡ c / 256 % 256 = high_byte _ _ c (u.each 4) (u.each 5) h.count_is in
    let blank : checked b 0 0 ≡ headed E kind i c (t ++ zeros (504 - length t)) = apart ∙ cc in
    sym (seal_blank b (omega arith) u h.sound) ∙ ap seal blank
