-- A block of records, and an end block, as the paper says them, are just the blocks of those bytes.
use Rattle.std.proofs.Common.{◌≡◌, ℕ, ◌+◌, ◌-◌, ◌*◌, ◌^◌, ◌<◌, ◌≤◌, List, ◌++◌, length}
use Rattle.std.proofs.Common.{drop, sym, ap, ◌∙◌, subst, arith, length-drop, get_or-drop, take_all, get_or-append-add}
use Rattle.lists.specs.Lists.{at, part, zeros, flat, Under}
use Rattle.blocks.specs.Bytes.{le, from_le}
use Rattle.blocks.specs.Edition.{Form, Edition}
use Rattle.blocks.specs.Block.{Clear, RecordBlock, EndBlock}
use Rattle.blocks.specs.Written.{block}
use Rattle.lists.proofs.Parts.{at_part, length_part, part_add, part_all, part_drop, part_left, short_part}
use Rattle.lists.proofs.Unders.{under_part}
use Rattle.lists.proofs.Pieces.{flat_parts, length_flat, part_flat, all_zeros, at_zeros}
use Rattle.blocks.proofs.Numbers.{length_le, number_le, number_under, part_le}
use Rattle.blocks.proofs.Block.{block_header, block_rest, header_block}
use Rattle.blocks.specs.Fair.{FormFits}
use Rattle.blocks.proofs.Fair.{in_block, few_records}

-- ---- bytes after the header

whole_part : (b : List ℕ) → length b ≡ 512 → part b 8 504 ≡ drop 8 b
unfolding part
whole_part b long = take_all 504 (drop 8 b) (simp length-drop (omega arith))

pub clear_part : (b : List ℕ) (a k e : ℕ) → a + k ≡ e → e ≤ length b → Clear b a e → part b a k ≡ zeros k
clear_part b a k e q h z =
    let n = length_part b a k (omega arith) in
    subst (λ m. part b a k ≡ zeros m) n (all_zeros (part b a k) (λ i g. at_part b a k i (omega arith) ∙ z.zero_at (a + i) (omega arith) (omega arith)))

-- so many bytes, and zeros behind them
rest_is : (b : List ℕ) (k : ℕ) → length b ≡ 512 → k ≤ 504 → Clear b (8 + k) 512 → drop 8 b ≡ part b 8 k ++ zeros (504 - k)
rest_is b k long h z =
    let e : k + (504 - k) ≡ 504 = omega arith in
    sym (whole_part b long)
    ∙ ap (part b 8) (sym e)
    ∙ part_add b 8 k (504 - k)
    ∙ ap (λ t. part b 8 k ++ t) (clear_part b (8 + k) (504 - k) 512 (omega arith) (omega arith) z)

rest_clear : (E : Edition) (b : List ℕ) (kind i c : ℕ) (t : List ℕ) → b ≡ block E kind i c t → Clear b (8 + length t) 512
rest_clear E b kind i c t e = record { zero_at = λ x lo hi. go x (x - 8 - length t) (omega arith) }
  where
    go : (x z : ℕ) → x ≡ 8 + (length t + z) → at b x ≡ 0
    go x z h =
        rw h
        (sym (get_or-drop 8 b (length t + z) 0)
        ∙ ap (λ l. at l (length t + z)) (ap (drop 8) e ∙ block_rest E kind i c t)
        ∙ get_or-append-add t (zeros (504 - length t)) z 0
        ∙ at_zeros (504 - length t) z)

-- ---- blocks of records

-- record j as it stands in a block
abbrev pub raw : Form → List ℕ → ℕ → List ℕ
raw F b j = part b (8 + F.size * j) F.size

module _ (E : Edition) (kind : ℕ) (F : Form) (fits : FormFits F) where
  pub records_block : {i c : ℕ} {b : List ℕ} → length b ≡ 512 → Under 256 b → RecordBlock E kind F i c b → b ≡ block E kind i c (flat c (raw F b))
  records_block {i} {c} {b} long u r =
      let room = in_block fits c r.records.fits in
      let n = length_part b 8 (F.size * c) (omega arith) in
      let e = rest_is b (F.size * c) long room r.records.rest in
      let t : drop 8 b ≡ part b 8 (F.size * c) ++ zeros (504 - length (part b 8 (F.size * c))) = rw n e in
      header_block E kind i c b (flat c (raw F b)) long u r.header (rw flat_parts at t)

  -- record j of a block that holds c of them
  pub record_in : (b : List ℕ) (i c : ℕ) (bytes : ℕ → List ℕ) → ((j : ℕ) → length (bytes j) ≡ F.size)
      → b ≡ block E kind i c (flat c bytes) → (j : ℕ) → j < c → raw F b j ≡ bytes j
  record_in b i c bytes sized e j h =
      part_drop b 8 (F.size * j) F.size
      ∙ ap (λ t. part t (F.size * j) F.size) (ap (drop 8) e ∙ block_rest E kind i c (flat c bytes))
      ∙ part_flat c F.size bytes _ (λ j g. sized j) j h

  -- bytes of records with their gaps 0 make a block of records
  pub block_records : (b : List ℕ) (i c : ℕ) (bytes : ℕ → List ℕ) → i < 65536 → 0 < c → c ≤ F.most
      → ((j : ℕ) → length (bytes j) ≡ F.size) → ((j x : ℕ) → F.used ≤ x → x < 8 → at (bytes j) x ≡ 0)
      → b ≡ block E kind i c (flat c bytes) → RecordBlock E kind F i c b
  block_records b i c bytes small some most sized clear e = record {
    header = rw e (block_header E kind i c (flat c bytes) small (omega (arith, few_records fits)));
    records = record {
      some = some;
      fits = most;
      gaps = λ j h. record { zero_at = λ x lo hi. gap j h x (x - (8 + F.size * j)) (omega arith) (omega arith) (omega arith) };
      rest = subst (λ n. Clear b (8 + n) 512) (length_flat c F.size bytes (λ j h. sized j)) (rest_clear E b kind i c (flat c bytes) e);
    };
  }
    where
      gap : (j : ℕ) → j < c → (x y : ℕ) → x ≡ 8 + F.size * j + y → F.used ≤ y → y < 8 → at b x ≡ 0
      gap j h x y g p q =
          rw g
          (sym (at_part b (8 + F.size * j) F.size y (omega (arith, fits.wide)))
          ∙ ap (λ l. at l y) (record_in b i c bytes sized e j h)
          ∙ clear j y p q)

-- ---- end blocks

module _ (E : Edition) where
  pub limit_fits : {i l : ℕ} {b : List ℕ} → Under 256 b → EndBlock E i l b → l < 2 ^ 32
  limit_fits {i} {l} {b} u x =
      rw (← x.limit_is) (number_under 4 (part b 8 4) (short_part b 8 4) (under_part 256 b 8 4 (omega arith) u))

  pub end_block : {i l : ℕ} {b : List ℕ} → length b ≡ 512 → Under 256 b → EndBlock E i l b → b ≡ block E 3 i 0 (le 4 l)
  end_block {i} {l} {b} long u x =
      let e = rest_is b 4 long (omega arith) x.rest in
      let t : part b 8 4 ≡ le 4 l = part_le b 8 4 u (omega arith) ∙ ap (le 4) x.limit_is in
      header_block E 3 i 0 b (le 4 l) long u x.header (rw length_le (rw t at e))

  pub block_end : (b : List ℕ) (i l : ℕ) → i < 65536 → l < 2 ^ 32 → b ≡ block E 3 i 0 (le 4 l) → EndBlock E i l b
  block_end b i l small h e = record {
    header = rw e (block_header E 3 i 0 (le 4 l) small (omega arith));
    limit_is = ap from_le (there b (le 4 l) (zeros (504 - length (le 4 l))) (length_le 4 l) (ap (drop 8) e ∙ block_rest E 3 i 0 (le 4 l))) ∙ number_le 4 l h;
    rest = subst (λ n. Clear b (8 + n) 512) (length_le 4 l) (rest_clear E b 3 i 0 (le 4 l) e);
  }
    where
      there : (b t r : List ℕ) → length t ≡ 4 → drop 8 b ≡ t ++ r → part b 8 4 ≡ t
      there b t r n e =
          part_drop b 8 0 4 ∙ ap (λ z. part z 0 4) e ∙ part_left t r 0 4 (omega arith) ∙ part_all t 4 n
