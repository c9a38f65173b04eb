-- The call's own steps: the table loaded is the problem's, the rules listed are all of them, and the words with new bounds are the words.
use mathlib.Core.Path.{◌≡◌, refl, sym, ap, ◌∙◌}
use mathlib.Core.Bool.{Bool, true, false}
use mathlib.Core.List.{List}
use Prim.Native.Nat.{ℕ, zero, suc, ◌+◌, ◌*◌, ◌/◌, ◌≤◌, ◌<◌}
use native.Mathlib.Omega.{arith}
use native.Mathlib.Decide.{ℕ_discrete}
use lib.ListN.{length, set, length-set}
use lib.Seq.{ext_get_or, get_or-set_same, get_or-set_other}
use Rattle.checker.specs.Promise.{Fine}
use Rattle.checker.proofs.Right.{proper_fine}
use Rattle.lists.specs.Lists.{at, series}
use Rattle.words.proofs.Tables.{table_path}
use Rattle.rules.specs.Tight.{rule}
use Rattle.problem.specs.Lent.{stride, word_count, width_at, lo_at, hi_at, table_of, rule_count, rule_at, rules_of}
use Rattle.std.specs.Prelude.{Ok, Err}
use Rattle.checker.specs.declared.refusal.Refusal.{Refusal}
use Rattle.checker.specs.declared.refusal.Refusal.TheVariants.{Size}
use Rattle.checker.specs.Demands.{Sized}
use Rattle.checker.specs.Refusal.{refusal}
use Rattle.checker.proofs.Rooms.{first_short, roomy, taken}
use Rattle.lists.proofs.Series.{length_series, series_at, series_same}
use Rattle.problem.proofs.Lents.{rule_at_lem}
use Rattle.tighten.specs.declared.Answer.TheVariants as answer
use Rattle.tighten.specs.Memory.{table_in, chosen, Loaded, Numbered, Cleared, put_bounds}
use Rattle.tighten.specs.Ready.{Tabled, Listed, Settled, Left}
use Rattle.tighten.specs.Promise.{tighten_work, tighten_refusal, WithBounds, tight, conflict, Tightening, refused, answered}
use Rattle.tighten.proofs.Memory.{low_at, high_at, lows, highs}
use Rattle.tighten.proofs.Buffers.{put_length}

-- a table in memory, by its bounds
table_is : (n : ℕ) (l : List ℕ) (f g : ℕ → ℕ) → n ≤ 32 → 64 ≤ length l → ((i : ℕ) → i < n → at l i ≡ f i) → ((i : ℕ) → i < n → at l (i + 32) ≡ g i)
    → table_in n l ≡ record { lo = series n f; hi = series n g }
table_is n l f g most room low high =
    table_path
    (ext_get_or 0 (table_in n l).lo (series n f) (lows n l most room ∙ sym (length_series n f))
    (λ i h. let k : i < n = rw (lows n l most room) at h in low_at n l i k ∙ low i k ∙ sym (series_at 0 n i f k)))
    (ext_get_or 0 (table_in n l).hi (series n g) (highs n l most room ∙ sym (length_series n g))
    (λ i h. let k : i < n = rw (highs n l most room) at h in high_at n l i k ∙ high i k ∙ sym (series_at 0 n i g k)))

-- ---- before

-- the rules 0 to the last, listed
module _ (bs : List ℕ) {l m : List ℕ} (y : Numbered (rule_count bs) l m) where
  pub all_chosen : chosen (rules_of bs) m (rule_count bs) ≡ rules_of bs
  unfolding chosen
  all_chosen = series_same (rule_count bs) _ (rule_at bs) (λ j h. ap (rule (rules_of bs)) (y.each j h) ∙ rule_at_lem bs j h)

  pub all_listed : 64 + rule_count bs ≤ length m → Listed bs m (rule_count bs)
  all_listed room = record { room = room; each = λ j h. rw (y.each j h) h }

module _ {ws bs k l m : List ℕ} (fine : Fine 0 ws bs) (room : tighten_work ≤ length k) (x : Loaded (word_count ws) ws k l)
    (y : Numbered (rule_count bs) l m) where
  loaded_table : table_in (word_count ws) m ≡ table_of ws
  loaded_table =
      let c = fine.sized.words in
      table_is (word_count ws) m (lo_at ws) (hi_at ws) c (omega (arith, room, x.size, y.size))
      (λ i h. y.rest i (omega arith) ∙ x.low i h) (λ i h. y.rest (i + 32) (omega arith) ∙ x.high i h)

  pub call_tabled : Tabled ws m
  call_tabled = record { room = omega (arith, room, x.size, y.size); table = rw loaded_table fine.problem.table }

  pub call_listed : Listed bs m (rule_count bs)
  call_listed = all_listed bs y (omega (arith, fine.sized.rules, room, x.size, y.size))

  pub call_left : {n : List ℕ} {r : Bool} → Settled ws bs (rule_count bs) m n r → Left ws bs k n r
  call_left s = record { answer = rw (loaded_table, all_chosen bs y) at s.answer; size = s.outside.size ∙ y.size ∙ x.size }

-- ---- after

-- what stands in the words once bounds are put back: the width of word i, and for i below k its bounds
module _ (l ws : List ℕ) where
  put_width : (k i : ℕ) → at (put_bounds k l ws) (3 * i) ≡ at ws (3 * i)
  unfolding put_bounds
  put_width zero i = refl
  put_width (suc k) i =
      get_or-set_other (set (put_bounds k l ws) (3 * k + 1) (at l k)) (3 * k + 2) (3 * i) (at l (k + 32)) 0 (omega arith)
      ∙ get_or-set_other (put_bounds k l ws) (3 * k + 1) (3 * i) (at l k) 0 (omega arith) ∙ put_width k i

  put_low : (k i : ℕ) → 3 * k ≤ length ws → i < k → at (put_bounds k l ws) (3 * i + 1) ≡ at l i
  unfolding put_bounds
  put_low zero i r h = absurd (omega arith)
  put_low (suc k) i r h = go (ℕ_discrete i k) (λ h'. put_low k i (omega arith) h')
    where
      first : List ℕ
      first = set (put_bounds k l ws) (3 * k + 1) (at l k)

      go : Dec (i ≡ k) → (i < k → at (put_bounds k l ws) (3 * i + 1) ≡ at l i) → at (set first (3 * k + 2) (at l (k + 32))) (3 * i + 1) ≡ at l i
      go (yes e) ih =
          get_or-set_other first (3 * k + 2) (3 * i + 1) (at l (k + 32)) 0 (omega arith)
          ∙ rw e (get_or-set_same (put_bounds k l ws) (3 * k + 1) (at l k) 0 (omega (arith, put_length k l ws)))
      go (no d) ih =
          get_or-set_other first (3 * k + 2) (3 * i + 1) (at l (k + 32)) 0 (omega arith)
          ∙ get_or-set_other (put_bounds k l ws) (3 * k + 1) (3 * i + 1) (at l k) 0 (omega arith) ∙ ih (omega arith)

  put_high : (k i : ℕ) → 3 * k ≤ length ws → i < k → at (put_bounds k l ws) (3 * i + 2) ≡ at l (i + 32)
  unfolding put_bounds
  put_high zero i r h = absurd (omega arith)
  put_high (suc k) i r h = go (ℕ_discrete i k) (λ h'. put_high k i (omega arith) h')
    where
      first : List ℕ
      first = set (put_bounds k l ws) (3 * k + 1) (at l k)

      go : Dec (i ≡ k) → (i < k → at (put_bounds k l ws) (3 * i + 2) ≡ at l (i + 32)) → at (set first (3 * k + 2) (at l (k + 32))) (3 * i + 2) ≡ at l (i + 32)
      go (yes e) ih = rw e (get_or-set_same first (3 * k + 2) (at l (k + 32)) 0 (simp length-set (omega (arith, put_length k l ws))))
      go (no d) ih =
          get_or-set_other first (3 * k + 2) (3 * i + 2) (at l (k + 32)) 0 (omega arith)
          ∙ get_or-set_other (put_bounds k l ws) (3 * k + 1) (3 * i + 2) (at l k) 0 (omega arith) ∙ ih (omega arith)

-- the words with the bounds of the table in memory
pub put_bounds_lem : (l ws : List ℕ) → word_count ws ≤ 32 → 64 ≤ length l → WithBounds ws (put_bounds (word_count ws) l ws) (table_in (word_count ws) l)
put_bounds_lem l ws most room = record {
  size = put_length (word_count ws) l ws;
  widths = rw same (series_same (word_count ws) _ (width_at ws) (λ i h. put_width l ws (word_count ws) i));
  table =
      rw same
      (sym (table_is (word_count ws) l (λ i. at (put_bounds (word_count ws) l ws) (3 * i + 1)) (λ i. at (put_bounds (word_count ws) l ws) (3 * i + 2)) most room
      (λ i h. sym (put_low l ws (word_count ws) i (omega arith) h)) (λ i h. sym (put_high l ws (word_count ws) i (omega arith) h))));
}
  where
    same : word_count (put_bounds (word_count ws) l ws) ≡ word_count ws
    same = ap (λ n. n / stride) (put_length (word_count ws) l ws)

-- ---- the answer

module _ {ws bs l : List ℕ} where
  pub short_refused : length l < tighten_work → Tightening ws bs l (Err Size) ws l
  unfolding tighten_refusal
  short_refused h = refused (first_short tighten_work (length l) 0 0 (refusal ws bs) h)

  pub problem_refused : {r : Refusal} → tighten_work ≤ length l → refusal ws bs ≡ Err r → Tightening ws bs l (Err r) ws l
  unfolding tighten_refusal
  problem_refused h e = refused (roomy tighten_work (length l) 0 0 (refusal ws bs) h (omega arith) ∙ e)

module _ (ws bs l : List ℕ) (room : tighten_work ≤ length l) (passed : refusal ws bs ≡ Ok tt) {m n : List ℕ} (c : Cleared m n) where
  given : tighten_refusal ws bs l ≡ Ok tt
  unfolding tighten_refusal
  given = roomy tighten_work (length l) 0 0 (refusal ws bs) room (omega arith) ∙ passed

  -- the memory that is cleared is as long as the one that was lent
  kept : length m ≡ length l → Cleared l n
  kept e = record { size = c.size ∙ e; zeros = c.zeros }

  pub conflict_answer : Left ws bs l m false → Tightening ws bs l (Ok answer.Conflict) ws n
  conflict_answer x = answered given (conflict x.answer (kept x.size))

  pub tight_answer : Left ws bs l m true → Tightening ws bs l (Ok answer.Tight) (put_bounds (word_count ws) m ws) n
  tight_answer x =
      answered given
      (tight x.answer (put_bounds_lem m ws (proper_fine ws bs passed).sized.words (omega (arith, room, x.size))) (kept x.size))

-- a problem that is not refused has sizes that fit
pub here_sized : (ws bs l : List ℕ) → tighten_refusal ws bs l ≡ Ok tt → Sized ws bs
unfolding tighten_refusal
here_sized ws bs l e = (taken tighten_work (length l) ws bs e).sized
