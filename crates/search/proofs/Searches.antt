-- The two values of a guess, put together: what each search asks, that the open bits fall, and what comes of both.
use Rattle.checker.specs.Promise.{Fine}
use mathlib.Core.Path.{◌≡◌, refl, sym, ap, subst, ◌∙◌}
use mathlib.Core.Logic.{◌≢◌}
use mathlib.Core.List.{List}
use Prim.Native.Nat.{ℕ, suc, ◌+◌, ◌≤◌, ◌<◌}
use native.Mathlib.Numerals.{add-one}
use native.Mathlib.Omega.{arith}
use lib.ListN.{length}
use Rattle.words.specs.Bits.{bit}
use Rattle.words.specs.Table.{Table, Inside}
use Rattle.lists.specs.Lists.{at}
use Rattle.words.specs.Count.{open_below}
use Rattle.words.proofs.Tables.{self, in_reach}
use Rattle.words.proofs.Fixing.{inside0, inside1}
use Rattle.rules.specs.Tight.{Tight}
use Rattle.rules.specs.Proper.{Proper}
use Rattle.rules.proofs.Propers.{proper_inside, proper_narrower}
use Rattle.problem.specs.Lent.{word_count, widths_of, rules_of}
use Rattle.tighten.specs.Memory.{table_in}
use Rattle.trail.specs.Trail.{RolledBack}
use Rattle.search_theory.specs.Search.{none, Search, Ends, first, second, ends_found, ends_gave_up, answer_none}
use Rattle.search_theory.proofs.Falls.{search_falls}
use Rattle.search_theory.proofs.Limit.{count_limit}
use Rattle.search_theory.proofs.Solved.{proper_short}
use Rattle.search.specs.declared.Answer.{Answer}
use Rattle.search.specs.declared.Answer.TheVariants.{Found, Nothing, GaveUp}
use Rattle.search.specs.Guessing.{copy_in, top_at, zero_at, one_at, Copied, Second}
use Rattle.search.specs.Searching.{outcome_of, TightIn, Frame, Begun, Searched, Guessed}
use Rattle.search.proofs.Tables.{copy_highs}
use Rattle.search.proofs.Frames.{frame_trans, frame_behind, chosen_kept, listed_kept, frame_copy, frame_back, table_back}

-- the values of a guess at memory l's table were searched, from memory m to v with e entries on the trail, and the answer is a
pub record Valued (ws bs l : List ℕ) (c limit used : ℕ) (m : List ℕ) (e : ℕ) (a : Answer) (v : List ℕ) : Type 0 where
  pub search : Search (TightIn ws bs l c) limit (table_in (word_count ws) l) used (outcome_of a (table_in (word_count ws) v).lo)
  pub frame : Frame e m v

module _ {ws bs l : List ℕ} {c b used limit i e : ℕ} {m : List ℕ} (fine : Fine 0 ws bs) (begun : Begun ws bs l c b used limit)
    (g : Guessed ws bs c limit l b used i e m) where
  most : word_count ws ≤ 32
  most = fine.sized.words

  room : 380 ≤ length m
  room = omega (arith, g.room)

  proper : Proper (widths_of ws) (copy_in (word_count ws) m)
  proper = proper_narrower begun.tabled.table g.widest.inside

  whole : Inside (copy_in (word_count ws) m) (copy_in (word_count ws) m)
  whole = self g.widest.inside

  reach : i < word_count ws
  reach = omega (arith, in_reach (copy_in (word_count ws) m).hi i _ g.guess.here.on, copy_highs (word_count ws) m most room)

  in0 : Inside (zero_at (copy_in (word_count ws) m) i) (copy_in (word_count ws) m)
  in0 = inside0 _ _ _ whole g.guess.here

  in1 : Inside (one_at (copy_in (word_count ws) m) i) (copy_in (word_count ws) m)
  in1 = inside1 _ _ _ whole g.guess.here

  falls : (open_below (word_count ws) (zero_at (copy_in (word_count ws) m) i) < open_below (word_count ws) (table_in (word_count ws) l))
      × (open_below (word_count ws) (one_at (copy_in (word_count ws) m) i) < open_below (word_count ws) (table_in (word_count ws) l))
  falls = search_falls g.widest g.guess (word_count ws) reach (proper_inside begun.tabled.table)

  -- the list stays in every memory x framed by m
  list_in : {x : List ℕ} → Frame e m x → (q : ℕ) → 64 ≤ q → q < 316 → at x q ≡ at l q
  list_in f q h k = f.same q h (omega arith) ∙ g.list q h k

  tight_in : {x : List ℕ} → Frame e m x → TightIn ws bs x c ≡ TightIn ws bs l c
  tight_in {x} f = ap (Tight (widths_of ws)) (chosen_kept l x c begun.few (list_in f) (rules_of bs))

  copy_in_lem : {x : List ℕ} → Frame e m x → copy_in (word_count ws) x ≡ copy_in (word_count ws) m
  copy_in_lem f = frame_copy (word_count ws) most room f

  -- what a search of a table inside the copy asks
  begun_in : {x : List ℕ} (t : Table) (k : ℕ) → Frame e m x → table_in (word_count ws) x ≡ t → Inside t (copy_in (word_count ws) m) → k ≤ limit
      → Begun ws bs x c e k limit
  begun_in {x} t k f here inside within = record {
    tabled = record { room = omega (arith, room, f.size); table = rw here (proper_narrower proper inside) };
    listed = listed_kept l x c begun.few (list_in f) bs (f.size ∙ g.size) begun.listed;
    few = begun.few;
    copy = rw (here, copy_in_lem f) inside;
    room = rw (copy_in_lem f) (omega (arith, g.room, f.size));
    within = within;
  }

  itself : Frame e m m
  itself = record { size = refl; same = λ q h k. refl }

  -- ---- the first value

  pub first_begun : Begun ws bs m c e (used + 1) limit
  first_begun = begun_in _ (used + 1) itself g.table in0 (omega (arith, g.allowed))

  pub first_falls : open_below (word_count ws) (table_in (word_count ws) m) < open_below (word_count ws) (table_in (word_count ws) l)
  first_falls = rw g.table falls.0

  module _ {r : Answer} {x : List ℕ} (s : Searched ws bs c limit m e (used + 1) r x) where
    -- as a search of the table that was asked for
    pub first_search : Search (TightIn ws bs l c) limit (zero_at (copy_in (word_count ws) m) i) (suc used)
        (outcome_of r (table_in (word_count ws) x).lo)
    first_search =
        subst (λ (T : Table → Type 0). Search T limit (zero_at (copy_in (word_count ws) m) i) (suc used) (outcome_of r (table_in (word_count ws) x).lo))
        (tight_in itself) (rw (g.table, add-one used) at s.search)

    -- the answer, where the second value is not searched
    pub first_valued : ((k : ℕ) → r ≡ Nothing k → ⊥) → Valued ws bs l c limit used m e r x
    first_valued some = record { search = first g.widest g.guess g.allowed first_search (go r some); frame = s.frame }
      where
        go : (a : Answer) → ((k : ℕ) → a ≡ Nothing k → ⊥) → Ends (outcome_of a (table_in (word_count ws) x).lo)
        go (Found k) q = ends_found
        go (Nothing k) q = absurd (q k refl)
        go GaveUp q = ends_gave_up

    -- ---- the second value

    pub second_copied : Copied (word_count ws) x i
    second_copied =
        let q = copy_in_lem s.frame in
        let apart : at (copy_in (word_count ws) m).lo i ≢ at (copy_in (word_count ws) m).hi i =
        λ same. omega (arith, g.guess.here.off, g.guess.here.on, ap (λ (v : ℕ). bit v (top_at (copy_in (word_count ws) m) i)) same) in
        record {
          words = most;
          word = reach;
          room = omega (arith, room, s.frame.size);
          under = rw q (whole.mid i);
          short = rw q (proper_short proper i);
          differs = rw q apart;
        }

  module _ {k : ℕ} {x : List ℕ} (s : Searched ws bs c limit m e (used + 1) (Nothing k) x) {z : List ℕ} (fixed : Second (word_count ws) x i z) where
    frame_second : Frame e m z
    frame_second = frame_trans s.frame (frame_behind e x z fixed.size fixed.rest)

    table_second : table_in (word_count ws) z ≡ one_at (copy_in (word_count ws) m) i
    table_second = fixed.table ∙ ap (λ t. one_at t i) (copy_in_lem s.frame)

    first_none : Search (TightIn ws bs l c) limit (zero_at (copy_in (word_count ws) m) i) (suc used) (none k)
    first_none = first_search s

    pub second_begun : Begun ws bs z c e k limit
    second_begun = begun_in _ k frame_second table_second in1 (count_limit first_none answer_none g.allowed)

    pub second_falls : open_below (word_count ws) (table_in (word_count ws) z) < open_below (word_count ws) (table_in (word_count ws) l)
    second_falls = rw table_second falls.1

    pub second_valued : {a : Answer} {v : List ℕ} → Searched ws bs c limit z e k a v → Valued ws bs l c limit used m e a v
    second_valued {a} {v} t = record {
      search = second g.widest g.guess g.allowed first_none
          (subst (λ (T : Table → Type 0). Search T limit (one_at (copy_in (word_count ws) m) i) k (outcome_of a (table_in (word_count ws) v).lo))
          (tight_in frame_second) (rw table_second at t.search));
      frame = frame_trans frame_second t.frame;
    }

  -- ---- the entries taken back

  pub valued_end : {a : Answer} {v y : List ℕ} → Valued ws bs l c limit used m e a v → RolledBack b e v y → Searched ws bs c limit l b used a y
  valued_end {a} {v} {y} x back = record {
    search = subst (λ w. Search (TightIn ws bs l c) limit (table_in (word_count ws) l) used (outcome_of a w)) values x.search;
    frame = frame_back g.entries g.size g.list g.trail g.back x.frame back;
  }
    where
      values : (table_in (word_count ws) v).lo ≡ (table_in (word_count ws) y).lo
      values = ap (λ t. t.lo) (sym (table_back (word_count ws) most (omega (arith, room, x.frame.size)) back))
