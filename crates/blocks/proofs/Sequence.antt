-- Blocks of one kind in order are just the blocks of their records, one after the other.
use Rattle.std.proofs.Common.{◌≡◌, ℕ, ◌+◌, ◌*◌, ◌/◌, ◌%◌, ◌<◌, ◌≤◌, List, [], ◌++◌, length, sym, ap, ◌∙◌, append-nil, mod-lt, arith}
use native.Mathlib.Nat.{div-add-mod}
use Rattle.lists.specs.Lists.{at, part, flat, Under}
use Rattle.blocks.specs.Edition.{Form, Edition}
use Rattle.blocks.specs.Block.{RecordBlock}
use Rattle.blocks.specs.File.{block_at, count_at, Blocks}
use Rattle.blocks.specs.Written.{held, blocks_for, block, blocks_of}
use Rattle.lists.proofs.Parts.{length_part, part_part}
use Rattle.lists.proofs.Unders.{under_part}
use Rattle.lists.proofs.Pieces.{flat_parts, flat_same, length_flat, part_flat, total_same}
use Rattle.blocks.proofs.Block.{length_block}
use Rattle.blocks.specs.Fair.{FormFits}
use Rattle.blocks.proofs.Fair.{in_block}
use Rattle.blocks.proofs.Records.{raw, records_block, record_in, block_records}
use Rattle.blocks.proofs.Counts.{block_there, held_full, held_some, held_total, quotient, remainder}
use Rattle.blocks.proofs.InOrder.{blocks_held}

-- record j of a file's blocks from `first` on, as it stands there
unfoldable pub raw_at : Form → List ℕ → ℕ → ℕ → List ℕ
raw_at F f first j = raw F (block_at f (first + j / F.most)) (j % F.most)

module _ (E : Edition) (kind : ℕ) (F : Form) (fits : FormFits F) (first n : ℕ) where
  -- the same records make the same blocks
  pub blocks_of_same : (v w : ℕ → List ℕ) (q : ℕ) → ((j : ℕ) → j < n → v j ≡ w j)
      → blocks_of E kind F.most first n v q ≡ blocks_of E kind F.most first n w q
  unfolding blocks_of
  blocks_of_same v w q h =
      flat_same q _ _
      (λ i l. ap (block E kind (first + i) (held F.most n i))
      (flat_same (held F.most n i) (λ j. v (F.most * i + j)) (λ j. w (F.most * i + j)) (λ j g. h (F.most * i + j) (omega arith))))

  module _ (bytes : ℕ → List ℕ) (sized : (j : ℕ) → length (bytes j) ≡ F.size) where
    pub length_each : (i : ℕ) → length (block E kind (first + i) (held F.most n i) (flat (held F.most n i) (λ j. bytes (F.most * i + j)))) ≡ 512
    length_each i =
        length_block E kind (first + i) (held F.most n i) _
        (rw (length_flat (held F.most n i) F.size (λ j. bytes (F.most * i + j)) (λ j g. sized (F.most * i + j)))
        (in_block fits (held F.most n i) (omega arith)))

    pub length_blocks_of : (q : ℕ) → length (blocks_of E kind F.most first n bytes q) ≡ 512 * q
    unfolding blocks_of
    length_blocks_of q = length_flat q 512 _ (λ i g. length_each i)

    -- block i, whatever follows
    pub blocks_of_at : (q : ℕ) (r : List ℕ) (i : ℕ) → i < q → part (blocks_of E kind F.most first n bytes q ++ r) (512 * i) 512
        ≡ block E kind (first + i) (held F.most n i) (flat (held F.most n i) (λ j. bytes (F.most * i + j)))
    unfolding blocks_of
    blocks_of_at q r i h = part_flat q 512 _ r (λ j g. length_each j) i h

  -- ---- from a file to the bytes, and from the bytes to a file

  pub blocks_bytes : (f : List ℕ) (q : ℕ) → Under 256 f → 512 * (first + q) ≤ length f → Blocks E kind F f first q n
      → part f (512 * first) (512 * q) ≡ blocks_of E kind F.most first n (raw_at F f first) q
  unfolding blocks_of raw_at
  blocks_bytes f q u long b = flat_parts f (512 * first) 512 q ∙ flat_same q _ _ (λ i h. each i h)
    where
      record_at : (i j : ℕ) → j < F.most → raw F (block_at f (first + i)) j ≡ raw_at F f first (F.most * i + j)
      record_at i j h = rw (quotient F.most fits.some i j h, remainder F.most fits.some i j h)

      each : (i : ℕ) → i < q → part f (512 * first + 512 * i) 512
          ≡ block E kind (first + i) (held F.most n i) (flat (held F.most n i) (λ j. raw_at F f first (F.most * i + j)))
      each i h =
          let c = blocks_held E kind F fits f first q n b i h in
          let e : 512 * first + 512 * i ≡ 512 * (first + i) = omega arith in
          let r : RecordBlock E kind F (first + i) (held F.most n i) (block_at f (first + i)) = rw (← c) (b.each i h) in
          ap (λ x. part f x 512) e
          ∙ records_block E kind F fits (length_part f (512 * (first + i)) 512 (omega arith)) (under_part 256 f (512 * (first + i)) 512 (omega arith) u) r
          ∙ ap (block E kind (first + i) (held F.most n i)) (flat_same (held F.most n i) _ _ (λ j g. record_at i j (omega arith)))

  module _ (f : List ℕ) (q : ℕ) (bytes : ℕ → List ℕ) (sized : (j : ℕ) → length (bytes j) ≡ F.size) (number : q ≡ blocks_for F.most n)
      (same : part f (512 * first) (512 * q) ≡ blocks_of E kind F.most first n bytes q) where
    block_is : (i : ℕ) → i < q → block_at f (first + i)
        ≡ block E kind (first + i) (held F.most n i) (flat (held F.most n i) (λ j. bytes (F.most * i + j)))
    block_is i h =
        let z : 512 * (first + i) ≡ 512 * first + 512 * i = omega arith in
        ap (λ x. part f x 512) z
        ∙ sym (part_part f (512 * first) (512 * q) (512 * i) 512 (omega arith))
        ∙ ap (λ t. part t (512 * i) 512) (same ∙ sym (append-nil (blocks_of E kind F.most first n bytes q)))
        ∙ blocks_of_at bytes sized q [] i h

    -- each record stands in its place
    pub raw_is : (j : ℕ) → j < n → raw_at F f first j ≡ bytes j
    unfolding raw_at
    raw_is j h =
        let i = j / F.most in
        let e = div-add-mod j F.most in
        let l = mod-lt j fits.some in
        let inside : i < q = rw number (block_there F.most fits.some n i (omega arith)) in
        record_in E kind F fits (block_at f (first + i)) (first + i) (held F.most n i) (λ x. bytes (F.most * i + x)) (λ x. sized (F.most * i + x))
        (block_is i inside) (j % F.most) (omega arith)
        ∙ ap bytes e

    pub bytes_blocks : ((j x : ℕ) → F.used ≤ x → x < 8 → at (bytes j) x ≡ 0) → first + q ≤ 65536 → Blocks E kind F f first q n
    bytes_blocks clear small = record {
      each = λ i h. rw (counts i h) (each i h);
      full = λ i h. counts i (omega arith) ∙ held_full F.most fits.some n i (rw number at h);
      count = total_same q (λ i. count_at f (first + i)) (held F.most n) counts ∙ rw number (held_total F.most fits.some n);
    }
      where
        each : (i : ℕ) → i < q → RecordBlock E kind F (first + i) (held F.most n i) (block_at f (first + i))
        each i h =
            block_records E kind F fits (block_at f (first + i)) (first + i) (held F.most n i) (λ j. bytes (F.most * i + j)) (omega arith)
            (held_some F.most fits.some n i (rw number at h)) (omega arith) (λ j. sized (F.most * i + j)) (λ j. clear (F.most * i + j)) (block_is i h)

        counts : (i : ℕ) → i < q → count_at f (first + i) ≡ held F.most n i
        counts i h = (each i h).header.count_is
