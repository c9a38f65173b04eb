-- One table: tightened, decided or not, and the guess made.
use Rattle.checker.specs.Promise.{Fine}
use mathlib.Core.Path.{◌≡◌, sym, ap, ◌∙◌}
use mathlib.Core.Bool.{true, false}
use mathlib.Core.Logic.{◌≢◌}
use mathlib.Core.List.{List}
use Prim.Native.Nat.{ℕ, ◌+◌, ◌*◌, ◌^◌, ◌≤◌, ◌<◌, ◌-◌}
use native.Mathlib.Omega.{arith}
use Rattle.std.proofs.Common.{None}
use lib.ListN.{length, length-set}
use lib.Seq.{get_or-set_other}
use Rattle.words.specs.Table.{Inside, Guess}
use Rattle.lists.specs.Lists.{at}
use Rattle.words.specs.Count.{open_below}
use Rattle.words.proofs.Tables.{self, inside_trans}
use Rattle.rules.specs.Tightening.{Widest}
use Rattle.rules.proofs.Propers.{proper_narrower}
use Rattle.problem.specs.Lent.{word_count}
use Rattle.tighten.specs.Memory.{table_in}
use Rattle.tighten.specs.Ready.{Settled}
use Rattle.tighten.proofs.Memory.{low_at, high_at, lows, highs}
use Rattle.trail.specs.Trail.{copied, changes, Committed}
use Rattle.trail.proofs.Undoing.{undone_same}
use Rattle.trail.proofs.Room.{room_left}
use Rattle.search_theory.specs.Search.{conflict, settled, stopped}
use Rattle.search_theory.proofs.Solved.{proper_short}
use Rattle.search.specs.declared.Answer.TheVariants.{Found, Nothing, GaveUp}
use Rattle.search.specs.Guessing.{copy_in, top_at, zero_at, LowestAt, Lowest, Fixable, zero_fixed}
use Rattle.search.specs.Searching.{TightIn, Frame, Begun, Searched, Guessed}
use Rattle.search.proofs.Tables.{table_same, copy_low, copy_high, copy_as}
use Rattle.search.proofs.Guesses.{first_table, lowest_done, lowest_fixable, lowest_guess}
use Rattle.search.proofs.Frames.{frame_outside, frame_copy}

module _ {ws bs l : List ℕ} {c b used limit : ℕ} (fine : Fine 0 ws bs) (begun : Begun ws bs l c b used limit) {k : List ℕ} where
  -- ---- no tight table

  pub prepared_none : Settled ws bs c l k false → Searched ws bs c limit l b used (Nothing used) k
  prepared_none x = record { search = conflict x.answer; frame = frame_outside b fine.sized.words x.outside }

  module _ (s : Settled ws bs c l k true) where
    most : word_count ws ≤ 32
    most = fine.sized.words

    size : length k ≡ length l
    size = s.outside.size

    room : 380 ≤ length k
    room = omega (arith, begun.room, size)

    frame : Frame b l k
    frame = frame_outside b most s.outside

    widest : Widest (TightIn ws bs l c) (table_in (word_count ws) l) (table_in (word_count ws) k)
    widest = s.answer

    whole : Inside (table_in (word_count ws) k) (table_in (word_count ws) k)
    whole = self widest.inside

    short : (i : ℕ) → at (table_in (word_count ws) k).hi i < 2 ^ 64
    short i = proper_short (proper_narrower begun.tabled.table widest.inside) i

    same_copy : copy_in (word_count ws) k ≡ copy_in (word_count ws) l
    same_copy = frame_copy (word_count ws) most (omega (arith, room, size)) frame

    inside_copy : Inside (table_in (word_count ws) k) (copy_in (word_count ws) k)
    inside_copy = rw same_copy (inside_trans widest.inside begun.copy)

    -- entries and open bits
    enough : changes (word_count ws) k + open_below (word_count ws) (table_in (word_count ws) k) ≤ open_below (word_count ws) (copy_in (word_count ws) k)
    enough =
        room_left k (table_in (word_count ws) k) (copy_in (word_count ws) k) inside_copy (word_count ws)
        (λ i h. low_at (word_count ws) k i h) (λ i h. high_at (word_count ws) k i h)
        (λ i h. copy_low (word_count ws) k i h) (λ i h. copy_high (word_count ws) k i h)

    pub commit_room : 380 + 2 * (b + changes (word_count ws) k) ≤ length k
    commit_room = omega (arith, begun.room, size, enough, ap (open_below (word_count ws)) same_copy)

    -- ---- no open bit, or no guess left

    pub prepared_found : Lowest (word_count ws) k None → Searched ws bs c limit l b used (Found used) k
    prepared_found x = record { search = settled widest (lowest_done k most (omega (arith, room)) x); frame = frame }

    module _ {i : ℕ} (x : LowestAt (word_count ws) k i) where
      guess : Guess (table_in (word_count ws) k) i (top_at (table_in (word_count ws) k) i)
      guess = lowest_guess k most (omega (arith, room)) x whole short

      pub prepared_stopped : used ≡ limit → Searched ws bs c limit l b used GaveUp k
      prepared_stopped e =
          let all : limit ≤ used = omega arith in
          record { search = stopped widest guess all; frame = frame }

      -- ---- a guess

      module _ {e : ℕ} {m : List ℕ} (y : Committed (word_count ws) b k m e) where
        pub commit_fixable : Fixable m i
        commit_fixable =
            let f = lowest_fixable k most (omega (arith, room)) x whole short in
            let lo = y.below i (omega (arith, f.word)) in
            let hi = y.below (i + 32) (omega (arith, f.word)) in
            record {
              word = f.word;
              room = omega (arith, y.size, f.room);
              under = rw (lo, hi) f.under;
              short = rw hi f.short;
              differs = rw (lo, hi) f.differs;
            }

        -- only one number of the table changes
        untouched : (q : ℕ) → 64 ≤ q → at (zero_fixed m i) q ≡ at m q
        unfolding zero_fixed
        untouched q h = get_or-set_other m (i + 32) q _ 0 (omega (arith, x.below, most))

        length_first : length (zero_fixed m i) ≡ length m
        unfolding zero_fixed
        length_first = length-set m (i + 32) _

        new_copy : copy_in (word_count ws) (zero_fixed m i) ≡ table_in (word_count ws) k
        new_copy =
            copy_as (word_count ws) (zero_fixed m i) most (omega (arith, length_first, y.size, room)) (table_in (word_count ws) k)
            (lows (word_count ws) k most (omega (arith, room))) (highs (word_count ws) k most (omega (arith, room)))
            (λ q h. untouched (316 + q) (omega arith) ∙ y.low q h ∙ sym (low_at (word_count ws) k q h))
            (λ q h. untouched (316 + (q + 32)) (omega arith) ∙ y.high q h ∙ sym (high_at (word_count ws) k q h))

        same_table : table_in (word_count ws) m ≡ table_in (word_count ws) k
        same_table = table_same (word_count ws) k m most (omega (arith, room)) y.size (λ q h. y.below q (omega arith))

        pub prepared_guess : used ≢ limit → Guessed ws bs c limit l b used i e (zero_fixed m i)
        prepared_guess d = record {
          widest = rw new_copy widest;
          guess = rw new_copy guess;
          allowed = omega (arith, begun.within);
          table = rw new_copy (first_table (word_count ws) m i x.below most ∙ ap (λ t. zero_at t i) same_table);
          size = length_first ∙ y.size ∙ size;
          list = λ q h g. untouched q h ∙ y.below q g ∙ frame.same q h (omega arith);
          trail = λ q h g. untouched q (omega arith) ∙ y.trail q h g ∙ frame.same q (omega arith) g;
          back = λ q h. undone_same (e - b) b (zero_fixed m i) m (copied (zero_fixed m i)) (copied m) (λ p a g. untouched p (omega arith))
              (λ p a. untouched (316 + p) (omega arith)) q h ∙ y.back q h ∙ frame.same (316 + q) (omega arith) (omega arith);
          entries = omega (arith, y.count);
          room = rw new_copy
              (omega (arith, y.count, enough, ap (open_below (word_count ws)) same_copy, begun.room, length_first, y.size, size));
        }
